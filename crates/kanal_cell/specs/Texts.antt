-- The text of the error.
use Rattle.std.specs.Prelude.{ℕ, List, codes}
use Rattle.kanal_cell.specs.declared.error.NoMemory.{NoMemory}

-- memory was refused
abbrev pub no_memory_text : NoMemory → List ℕ
no_memory_text e = codes "no memory"
