-- What each call on a core does to its line, and who leaves the list of waiters.
use Rattle.std.specs.Prelude.{◌≡◌, ◌≢◌, ℕ, true, false, List, [], ◌∷◌, ◌++◌, Option, Some, None, MatchOption}
use Rattle.kanal_core.specs.declared.internal.outcome.Outcome.{Outcome}
use Rattle.kanal_core.specs.declared.internal.outcome.Settled.{Settled}
use Rattle.kanal_core.specs.declared.internal.outcome.Ticket.{Ticket}
use Rattle.kanal_core.specs.declared.internal.outcome.Waiter.{Waiter}
use Rattle.kanal_core.specs.declared.internal.outcome.Offer.{Offer}
use Rattle.kanal_core.specs.declared.internal.outcome.Offer.TheVariants.{Entered, Handed, Full, Closed as OfferClosed, ReceiveClosed, Sealed, NoMemory}
use Rattle.kanal_core.specs.declared.internal.outcome.Take.{Take}
use Rattle.kanal_core.specs.declared.internal.outcome.Take.TheVariants.{Got, Closed as TakeClosed, SendClosed, Empty}
use Rattle.kanal_core.specs.Line.{LineEntry, Line, has_place, has, found}
use Rattle.kanal_core.specs.Moves.{Moved, enter, leave, without_entry, without_demand}
use Rattle.kanal_core.specs.Channel.{ChannelView, settlement, settlements}
use Rattle.kanal_core.specs.Tickets.{number_of}

-- the first of the list was taken out, or nothing where the list is empty
abbrev pub TakesFirst : {A : Type 0} → Option A → List A → List A → Type 0
TakesFirst taken old new = MatchOption taken ((old ≡ []) × (new ≡ [])) (λ a. old ≡ a ∷ new)

-- the line moved, and settled these tickets
abbrev pub MovesTo : {T : Type 0} → Moved T → List (ℕ × Outcome T) → Line T → Type 0
MovesTo moved settled new = moved ≡ record { line = new; settled = settled }

-- the message entered
pub record Enters {T : Type 0} (old : Line T) (m : T) (settled : List (ℕ × Outcome T)) (new : Line T) : Type 0 where
  pub receiver : old.receivers ≢ 0
  pub sender : old.senders ≢ 0
  pub place : has_place old ≡ true
  pub moves : MovesTo (enter old m) settled new

-- the front of the line was taken
pub record TakesFront {T : Type 0} (old : Line T) (m : T) (settled : List (ℕ × Outcome T)) (new : Line T) : Type 0 where
  pub front : LineEntry T
  pub rest : List (LineEntry T)
  pub receiver : old.receivers ≢ 0
  pub was : old.line ≡ front ∷ rest
  pub message : m ≡ front.message
  pub moves : MovesTo (leave old (front ∷ []) rest) settled new

-- an open line stays as it was
abbrev pub Stays : {T : Type 0} → Line T → Line T → Type 0
Stays old new = (old.receivers ≢ 0) × (new ≡ old)

-- a side that was gone is gone still
abbrev pub StaysGone : {T W : Type 0} → ChannelView T W → ChannelView T W → Type 0
StaysGone old new = (old.senders ≡ 0 → new.senders ≡ 0) × (old.receivers ≡ 0 → new.receivers ≡ 0)

-- an offer would be answered `Full`
abbrev pub IsFull : {T : Type 0} → Line T → Type 0
IsFull old = (old.receivers ≢ 0) × (old.senders ≢ 0) × (has_place old ≡ false)

-- a take would be answered `Empty`
abbrev pub IsEmpty : {T : Type 0} → Line T → Type 0
IsEmpty old = (old.receivers ≢ 0) × (old.senders ≢ 0) × (old.line ≡ [])

-- a ticket was withdrawn: its entry or its demand leaves, with its message if it has one
abbrev pub Withdraws : {T : Type 0} → Line T → Ticket → Option (Option T) → Line T → Type 0
Withdraws old t None new = (found t.number old.line ≡ []) × (has t.number old.demands ≡ false) × (new ≡ old)
Withdraws old t (Some (Some m)) new = (found t.number old.line ≡ m ∷ []) × (new ≡ without_entry old t.number)
Withdraws old t (Some None) new = (found t.number old.line ≡ []) × (has t.number old.demands ≡ true) × (new ≡ without_demand old t.number)

module _ {T W : Type 0} where
  -- behind those that wait stands one more, under a ticket with this number
  abbrev pub WaitsLast : ℕ → Option T → W → Ticket → List (Waiter T W) → List (Waiter T W) → Type 0
  WaitsLast number message w ticket old new =
      (number_of ticket ≡ number) × (new ≡ old ++ record { ticket = ticket; message = message; w = w } ∷ [])

  -- a message was offered
  abbrev pub Offers : Line T → T → Offer T W → Line T → Type 0
  Offers old m Entered new = Enters old m [] new
  Offers old m (Handed s) new = Enters old m (settlement s ∷ []) new
  Offers old m (Full back) new = Stays old new × (old.senders ≢ 0) × (has_place old ≡ false) × (back ≡ m)
  Offers old m (OfferClosed back) new = (old.receivers ≡ 0) × (old.senders ≡ 0) × (back ≡ m) × (new ≡ old)
  Offers old m (ReceiveClosed back) new = (old.receivers ≡ 0) × (old.senders ≢ 0) × (back ≡ m) × (new ≡ old)
  Offers old m (Sealed back) new = Stays old new × (old.senders ≡ 0) × (back ≡ m)
  Offers old m (NoMemory back) new = Stays old new × (old.senders ≢ 0) × (old.demands ≡ []) × (old.capacity ≡ None) × (back ≡ m)

  -- the message is in the line, or a waiting receiver has it
  abbrev pub HasEntered : Offer T W → Type 0
  HasEntered Entered = Unit {0}
  HasEntered (Handed s) = Unit {0}
  HasEntered (Full back) = ⊥
  HasEntered (OfferClosed back) = ⊥
  HasEntered (ReceiveClosed back) = ⊥
  HasEntered (Sealed back) = ⊥
  HasEntered (NoMemory back) = ⊥

  -- an unlimited buffer found no memory for the message
  abbrev pub LacksMemory : Offer T W → Type 0
  LacksMemory (NoMemory back) = Unit {0}
  LacksMemory Entered = ⊥
  LacksMemory (Handed s) = ⊥
  LacksMemory (Full back) = ⊥
  LacksMemory (OfferClosed back) = ⊥
  LacksMemory (ReceiveClosed back) = ⊥
  LacksMemory (Sealed back) = ⊥

  -- a message was asked for
  abbrev pub Takes : Line T → Take T W → Line T → Type 0
  Takes old (Got m settled) new = TakesFront old m (settlements settled) new
  Takes old TakeClosed new = (old.receivers ≡ 0) × (new ≡ old)
  Takes old SendClosed new = Stays old new × (old.line ≡ []) × (old.senders ≡ 0)
  Takes old Empty new = Stays old new × (old.line ≡ []) × (old.senders ≢ 0)

  -- the oldest waiter left the list and is settled, or nobody did
  abbrev pub OldestLeft : List (Waiter T W) → Option (Settled T W) → List (Waiter T W) → Type 0
  OldestLeft old None new = new ≡ old
  OldestLeft old (Some s) new = (w : Waiter T W) × (old ≡ w ∷ new) × (s.ticket ≡ w.ticket) × (s.w ≡ w.w)

  -- the waiter that an offer settled
  abbrev pub handed : Offer T W → Option (Settled T W)
  handed (Handed s) = Some s
  handed Entered = None
  handed (Full back) = None
  handed (OfferClosed back) = None
  handed (ReceiveClosed back) = None
  handed (Sealed back) = None
  handed (NoMemory back) = None

  -- the waiter that a take settled
  abbrev pub let_in : Take T W → Option (Settled T W)
  let_in (Got m settled) = settled
  let_in TakeClosed = None
  let_in SendClosed = None
  let_in Empty = None
