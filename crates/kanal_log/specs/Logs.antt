-- Which table a log is.
use Rattle.atomic_table.specs.Seated.{TableId}
use Rattle.kanal_log.specs.declared.log.NewLog.{NewLog}

-- the name of the table of a log that has no name yet
abbrev pub table_of : {E : Type 0} → NewLog E → TableId
table_of opened = opened.table.shared.table_id
