-- What the waits of a history came to, and which messages its calls put and got.
use Rattle.std.specs.Prelude.{◌≡◌, ◌⊎◌, ℕ, false, List, [], ◌∷◌, ◌++◌, Option, Some, None}
use Rattle.kanal_log.specs.Views.{Known}
use Rattle.kanal_core.specs.declared.internal.outcome.Outcome.{Outcome}
use Rattle.kanal_core.specs.declared.internal.outcome.Outcome.TheVariants.{Taken, Given}
use Rattle.kanal_events.specs.declared.event.Event.TheVariants.{Withdraw}
use Rattle.kanal_events.specs.declared.event.Reply.TheVariants.{Waits, Withdrawn}
use Rattle.kanal_journal.specs.Paired.{Demand, AtOnce, Later, Next, asked, cleared_by, given, gift_of, is_ended, is_gone, sent}
use Rattle.kanal_journal.specs.Laws.{EndsOnce}
use Rattle.kanal_state.specs.declared.call.Call.{Call}
use Rattle.kanal_state.specs.Calls.{IsIn}
use Rattle.kanal_one_history.specs.Calls.{HasSettled, history_of}
use Rattle.kanal_one_history.specs.History.{Extends, Appends}

module _ {T : Type 0} where
  -- no ticket of this history was settled and withdrawn, or one of both twice
  abbrev pub EachEndsOnce : List (Call T) → Type 0
  EachEndsOnce log = EndsOnce (history_of log).events (history_of log).replies (history_of log).settled

  -- a wait that was settled otherwise than by an end is neither withdrawn nor ended, and it was given what its settlement says
  abbrev pub WaitsAsSettled : List (Call T) → Type 0
  WaitsAsSettled log =
      (t : ℕ) (outcome : Outcome T) → HasSettled log (t, outcome) → is_ended outcome ≡ false
      → (is_gone (history_of log) t ≡ false) × (given (history_of log).settled t ≡ gift_of outcome)

  -- a call of this history was told that it waits under this ticket
  pub record HasBegunToWait (log : List (Call T)) (ticket : ℕ) : Type 0 where
    pub before : List (Call T)
    pub call : Call T
    pub rest : List (Call T)
    pub stands : log ≡ before ++ call ∷ rest
    pub told : call.reply ≡ Waits ticket

  -- the call settled this ticket, or withdrew it
  abbrev pub SettlesOrWithdraws : Call T → ℕ → Type 0
  SettlesOrWithdraws call t =
      ((outcome : Outcome T) × IsIn (t, outcome) call.settled)
      ⊎ ((message : Option T) × (call.event ≡ Withdraw t) × (call.reply ≡ Withdrawn message))

  -- each ticket that a call settled or withdrew was told to a call before it, which began to wait
  abbrev pub WaitsComeFirst : List (Call T) → Type 0
  WaitsComeFirst log =
      (before : List (Call T)) (call : Call T) (rest : List (Call T)) (t : ℕ) → log ≡ before ++ call ∷ rest
      → SettlesOrWithdraws call t → HasBegunToWait before t

  -- these messages entered, each at once, or with a send that waited and was taken
  abbrev pub ArePut : List (Call T) → List (T × Option ℕ) → List T → Type 0
  ArePut log [] [] = Unit {0}
  ArePut log [] (m ∷ ms) = ⊥
  ArePut log (s ∷ ss) [] = ⊥
  ArePut log ((x, None) ∷ ss) (m ∷ ms) = (x ≡ m) × ArePut log ss ms
  ArePut log ((x, Some t) ∷ ss) (m ∷ ms) = (x ≡ m) × HasSettled log (t, Taken) × ArePut log ss ms

  -- these demands got these messages, each at once, or with a receive that waited and was given it
  abbrev pub AreGot : List (Call T) → List (Demand T) → List T → Type 0
  AreGot log [] [] = Unit {0}
  AreGot log [] (m ∷ ms) = ⊥
  AreGot log (d ∷ ds) [] = ⊥
  AreGot log (AtOnce x ∷ ds) (m ∷ ms) = (x ≡ m) × AreGot log ds ms
  AreGot log (Later t ∷ ds) (m ∷ ms) = HasSettled log (t, Given m) × AreGot log ds ms
  AreGot log (Next ∷ ds) (m ∷ ms) = ⊥

  -- the pass made this one call, and may have seen more since
  pub record HasMade (capacity : Option ℕ) (old new : Known (Call T)) (call : Call T) : Type 0 where
    pub mid : Known (Call T)
    pub made : Appends capacity old mid call
    pub extends : Extends mid new

  -- by one call the pass put these messages and got those, and cleared none: whether the call waited or not
  pub record Exchanges (capacity : Option ℕ) (old new : Known (Call T)) (put got : List T) : Type 0 where
    pub call : Call T
    pub made : HasMade capacity old new call
    pub puts : ArePut new.log (sent call.event call.reply) put
    pub gets : AreGot new.log (asked call.event call.reply) got
    pub clears : cleared_by call.reply ≡ 0

  -- the call put no message, asked for none, and cleared none
  pub record ExchangesNothing (call : Call T) : Type 0 where
    pub sends : sent call.event call.reply ≡ []
    pub asks : asked call.event call.reply ≡ []
    pub clears : cleared_by call.reply ≡ 0
