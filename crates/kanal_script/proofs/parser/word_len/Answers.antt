use Rattle.std.proofs.Common.{refl}
use Rattle.kanal_script.proofs.parser.word_len.Goals as goal

pub loop-place-init : goal.loop-place-init
loop-place-init c = (refl, refl)
