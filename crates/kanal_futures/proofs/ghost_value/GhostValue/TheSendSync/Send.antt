-- It owns nothing, so it may go to any thread.
use denote.RattleType.{RattleType}
use denote.Param.Send.{IsSend}
use Rattle.kanal_futures.specs.contracts.ghost_value.GhostValue.{the_row}

pub send : (T : RattleType) → IsSend T → IsSend (the_row T)
send T sent = record { owned = λ d vs. ((λ vss. (tt, ((λ uss. (tt, tt)), tt))), tt); leaving = λ k f vs. tt }
