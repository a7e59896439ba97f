-- What a pass's own calls put and got.
use Rattle.std.specs.Prelude.{◌≡◌, ℕ, List, [], length, replicate, Option}
use Rattle.kanal_log.specs.declared.rule.Share.{Share}
use Rattle.kanal_log.specs.Shares.{both, half}
use Rattle.kanal_log.specs.Views.{Known, AreBelow}
use Rattle.kanal_journal.specs.Paired.{Demand, sent, asked, cleared_by}
use Rattle.kanal_state.specs.declared.call.Call.{Call}
use Rattle.kanal_one_history.specs.Puts.{AreGot, ArePut}
use Rattle.kanal_exchange.specs.Readings.{read_at}

-- so many marks
abbrev pub marks_of : ℕ → List (Unit {0})
marks_of n = replicate n tt

-- the share, halved and put together again
abbrev pub rejoined : Share → Share
rejoined s = both (half s) (half s)

module _ {T : Type 0} where
  -- the message that entered by this call, with the ticket of its wait
  abbrev pub sent_in : Call T → List (T × Option ℕ)
  sent_in c = sent c.event c.reply

  -- the demand of this call
  abbrev pub asked_in : Call T → List (Demand T)
  asked_in c = asked c.event c.reply

  -- a mark for each message that this call cleared
  abbrev pub cleared_in : Call T → List (Unit {0})
  cleared_in c = marks_of (cleared_by c.reply)

  -- the pass's own calls put these messages and got those, in this order, and cleared none
  pub record HasExchanged (put got : List T) (pass : Known (Call T)) : Type 0 where
    pub below : AreBelow (length pass.log) pass.own
    pub puts : ArePut pass.log (read_at sent_in pass.own 0 pass.log) put
    pub gets : AreGot pass.log (read_at asked_in pass.own 0 pass.log) got
    pub clears : read_at cleared_in pass.own 0 pass.log ≡ []
