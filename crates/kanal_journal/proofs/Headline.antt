-- What follows from a report that tells what the line does.
use Rattle.kanal_journal.proofs.Common.{◌≡◌, ℕ, List, [], Option, ap, ◌∙◌, arith, Event, Runs, account, opening_account, Paired, rest, history, until, weigh, event_weight, report_weight}
use Rattle.kanal_journal.specs.declared.journal.report.Report.{Report}
use Rattle.kanal_journal.proofs.Holding.{Holds}
use Rattle.kanal_journal.proofs.Along.{told_history, holds-opening, holds-along, paired-at, rest-left}
use Rattle.kanal_journal.proofs.Weighing.{weigh-leads}

module _ {T : Type 0} (capacity : Option ℕ) (events : List (Event T)) (report : Report T) (r : Runs capacity events report) where
  holds : Holds (told_history events (account r.0 r.1 report)) r.0
  holds = holds-along [] (opening_account capacity) (account r.0 r.1 report) events (holds-opening capacity) r.2

  pub runs-paired : (n : ℕ) → Paired (until n (history events report))
  runs-paired n = paired-at capacity events (account r.0 r.1 report) r.2 n

  pub runs-left : report.left.items ≡ rest (history events report)
  runs-left = r.3 ∙ rest-left (history events report) r.0 holds

  pub runs-whole : (h : T → ℕ) → weigh (event_weight h) events ≡ report_weight h report
  runs-whole h = omega (arith, weigh-leads h [] (opening_account capacity) (account r.0 r.1 report) events (holds-opening capacity) r.2, ap (weigh h) r.3)
