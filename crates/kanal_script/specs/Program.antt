-- What the program answers, and what it tells of a fault.
use Rattle.std.specs.Prelude.{◌≡◌, ◌⊎◌, ℕ, List, ◌++◌, Option, Some, None, MatchOption, codes, decimal}
use Rattle.std.specs.Io.KnownBytes.{Appends}
use Rattle.kanal_core.specs.Line.{last_word}
use Rattle.kanal_events.specs.declared.event.Event.{Event}
use Rattle.kanal_journal.specs.declared.journal.report.Report.{Report}
use Rattle.kanal_journal.specs.Runs.{Runs}
use Rattle.kanal_script.specs.declared.parser.ParseError.{ParseError}
use Rattle.kanal_script.specs.declared.parser.ParseError.TheVariants.{Unreadable as Unread, NoMemory as NoRoom}
use Rattle.kanal_script.specs.declared.program.Fault.{Fault}
use Rattle.kanal_script.specs.declared.program.Fault.TheVariants.{Unreadable, NoMemory, Device}
use Rattle.kanal_script.specs.Faults.{IsFirstFault}
use Rattle.kanal_script.specs.Script.{script_text, IsWritten}
use Rattle.kanal_script.specs.Answer.{report_text, too_large_text}

-- what a parse error is to the program
abbrev pub fault_of : ParseError → Fault
fault_of (Unread line) = Unreadable line
fault_of NoRoom = NoMemory

-- the status that a fault ends with
abbrev pub fault_status : Fault → ℕ
fault_status (Unreadable line) = 2
fault_status NoMemory = 1
fault_status Device = 1

-- what is told of a fault
abbrev pub fault_text : Fault → List ℕ
fault_text (Unreadable line) = codes "kanal-run: line " ++ (decimal line ++ codes ": unreadable")
fault_text NoMemory = codes "kanal-run: no memory"
fault_text Device = codes "kanal-run: device fault"

-- the bytes are a script, and this is what the channel tells along it: nothing if it can't be so large
abbrev pub IsAnswer : List ℕ → Option (Report ℕ) → Type 0
IsAnswer bytes answer = (capacity : Option ℕ) × (events : List (Event ℕ)) × IsWritten bytes (script_text capacity events)
    × MatchOption answer (capacity ≡ Some last_word) (λ report. Runs capacity events report)

-- an answer, printed
abbrev pub answer_text : Option (Report ℕ) → List ℕ
answer_text None = too_large_text
answer_text (Some report) = report_text report

-- the output grows by just the printed answer to the bytes
abbrev pub AnswersScript : List ℕ → Option (List ℕ) → Option (List ℕ) → Type 0
AnswersScript bytes old new = (answer : Option (Report ℕ)) × IsAnswer bytes answer × Appends old new (answer_text answer)

-- the output grows by a beginning of the text
abbrev pub AppendsBeginning : Option (List ℕ) → Option (List ℕ) → List ℕ → Type 0
AppendsBeginning old new text = (front : List ℕ) × (later : List ℕ) × (front ++ later ≡ text) × Appends old new front

-- the output grows by a beginning of the printed answer to the bytes
abbrev pub BeginsToAnswer : List ℕ → Option (List ℕ) → Option (List ℕ) → Type 0
BeginsToAnswer bytes old new = (answer : Option (Report ℕ)) × IsAnswer bytes answer × AppendsBeginning old new (answer_text answer)

-- the fault is one of reading the input: of memory or of the device
abbrev pub IsReadFault : Fault → Type 0
IsReadFault fault = (fault ≡ NoMemory) ⊎ (fault ≡ Device)

-- the fault is one of the script that the bytes write, or of memory
abbrev pub IsScriptFault : List ℕ → Fault → Type 0
IsScriptFault bytes fault = (error : ParseError) × (fault ≡ fault_of error) × IsFirstFault bytes error
