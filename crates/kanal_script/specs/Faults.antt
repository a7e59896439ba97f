-- Which line a fault is told of.
use Rattle.std.specs.Prelude.{◌≡◌, ◌<◌, ℕ, ◌+◌, List, ◌++◌, length, Option, ⊤, ◌⊎◌}
use Rattle.kanal_events.specs.declared.event.Event.{Event}
use Rattle.kanal_script.specs.declared.parser.ParseError.{ParseError}
use Rattle.kanal_script.specs.declared.parser.ParseError.TheVariants.{Unreadable, NoMemory}
use Rattle.kanal_script.specs.Script.{script_text, IsReadTo}
use Rattle.kanal_script.specs.Words.{EventsFit, FitsWord}

-- the number is the first line's, or the lines before that one are a script
abbrev pub IsReadBefore : List ℕ → ℕ → Type 0
IsReadBefore bytes number = (number ≡ 1) ⊎ ((capacity : Option ℕ) × (events : List (Event ℕ)) × (rest : List ℕ)
    × (bytes ≡ script_text capacity events ++ rest) × (number ≡ length events + 2))

-- every script that the bytes begin with ends before the line of this number
abbrev pub IsReadNoFurther : List ℕ → ℕ → Type 0
IsReadNoFurther bytes number = (capacity : Option ℕ) (events : List (Event ℕ)) (rest : List ℕ) → FitsWord capacity → EventsFit events
    → IsReadTo bytes (script_text capacity events) rest → length events + 1 < number

-- the line that is told of is the first that can't be read
abbrev pub IsFirstFault : List ℕ → ParseError → Type 0
IsFirstFault bytes (Unreadable number) = IsReadBefore bytes number × IsReadNoFurther bytes number
IsFirstFault bytes NoMemory = ⊤
