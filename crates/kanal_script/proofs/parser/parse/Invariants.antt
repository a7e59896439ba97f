use Rattle.kanal_script.proofs.Common.{◌≡◌, ◌+◌, ◌<◌, length, IsReadTo, script_text, EventsFit, FitsWord}
use Rattle.kanal_script.proofs.parser.parse.Given as goal

-- what is read so far is a script, its lines are counted, and its numbers fit
abbrev pub invariant-loop-parser : goal.invariant-loop-parser
invariant-loop-parser l = IsReadTo l.bytes (script_text l.capacity l.events.items) l.parser.rest.now
    × (0 < length l.parser.rest.now → l.parser.line ≡ length l.events.items + 2)
    × FitsWord l.capacity
    × EventsFit l.events.items

abbrev pub decreases-loop-parser : goal.decreases-loop-parser
decreases-loop-parser l = length l.parser.rest.now
