-- How linked slots hold waiters in order.
use Rattle.std.specs.Prelude.{◌≡◌, ◌≢◌, ℕ, suc, zero, Bool, false, ◌==◌, List, [], ◌∷◌, ◌++◌, length, Option, Some, None, if◌then◌else◌}
use Rattle.kanal_core.specs.declared.internal.outcome.Ticket.{Ticket}
use Rattle.kanal_core.specs.declared.internal.outcome.Waiter.{Waiter}
use Rattle.kanal_core.specs.declared.internal.slots.Slot.{Slot}
use Rattle.kanal_core.specs.Waiters.{emptied, same_ticket}
use Rattle.slab.specs.Slab.{Slab, get, slab_len, with_value}

-- the end of the list once a waiter is out that had this neighbor there, and this other one
abbrev pub end_after : Option ℕ → Option ℕ → Option ℕ → Option ℕ
end_after None other end = other
end_after (Some q) other end = end

-- the front of the list once a waiter stands behind all
abbrev pub front_with : Option ℕ → ℕ → Option ℕ
front_with None place = Some place
front_with (Some q) place = Some q

module _ {T W : Type 0} where
  -- the place of the first waiter
  abbrev pub first_place : List (Waiter T W) → Option ℕ
  first_place [] = None
  first_place (x ∷ xs) = Some x.ticket.place

  -- the place of the last waiter, where `before` is the place before them all
  abbrev pub last_place : Option ℕ → List (Waiter T W) → Option ℕ
  last_place before [] = before
  last_place before (x ∷ xs) = last_place (Some x.ticket.place) xs

  -- what the place p holds, where these waiters are linked in order and `before` is the place before them all
  abbrev pub slot_for : Option ℕ → List (Waiter T W) → ℕ → Option (Slot T W)
  slot_for before [] p = None
  slot_for before (x ∷ xs) p =
      if p == x.ticket.place then Some (record { waiter = x; before = before; after = first_place xs }) else slot_for (Some x.ticket.place) xs p

  -- no waiter is at the place
  abbrev pub IsFree : ℕ → List (Waiter T W) → Type 0
  IsFree p [] = Unit {0}
  IsFree p (x ∷ xs) = (p ≢ x.ticket.place) × IsFree p xs

  -- a waiter is at the place
  abbrev pub IsHeld : ℕ → List (Waiter T W) → Type 0
  IsHeld p ws = IsFree p ws → ⊥

  -- no two waiters are at one place
  abbrev pub AreApart : List (Waiter T W) → Type 0
  AreApart [] = Unit {0}
  AreApart (x ∷ xs) = IsFree x.ticket.place xs × AreApart xs

  -- f of what is there, or nobody
  abbrev pub if_there : {X : Type 0} → (X → List (Waiter T W)) → Option X → List (Waiter T W)
  if_there f None = []
  if_there f (Some x) = f x

  -- the waiters on the way along `after`, at most so many
  abbrev pub walk : ℕ → Slab (Slot T W) → Option ℕ → List (Waiter T W)
  walk zero s at = []
  walk (suc n) s at = if_there (λ p. if_there (λ (slot : Slot T W). slot.waiter ∷ walk n s slot.after) (get s p)) at

  -- the slots hold just these waiters, linked in order
  pub record IsLinked (s : Slab (Slot T W)) (first last : Option ℕ) (ws : List (Waiter T W)) : Type 0 where
    pub holds : (p : ℕ) → get s p ≡ slot_for None ws p
    pub apart : AreApart ws
    pub begins : first ≡ first_place ws
    pub ends : last ≡ last_place None ws
    pub count : slab_len s ≡ length ws

  -- what the place p holds once the slot at `at` has a new place after it
  abbrev pub link_after : Option ℕ → Option ℕ → ℕ → Option (Slot T W) → Option (Slot T W)
  link_after None to p o = o
  link_after (Some q) to p None = None
  link_after (Some q) to p (Some slot) = if p == q then Some (record slot { after = to }) else Some slot

  -- the same with the place before it
  abbrev pub link_before : Option ℕ → Option ℕ → ℕ → Option (Slot T W) → Option (Slot T W)
  link_before None to p o = o
  link_before (Some q) to p None = None
  link_before (Some q) to p (Some slot) = if p == q then Some (record slot { before = to }) else Some slot

  -- the new list is the old one without this waiter, the first at its place
  pub record IsOneOut (old new : List (Waiter T W)) (x : Waiter T W) : Type 0 where
    pub front : List (Waiter T W)
    pub back : List (Waiter T W)
    pub stood : old ≡ front ++ x ∷ back
    pub left : new ≡ front ++ back
    pub free : IsFree x.ticket.place front

  -- the message of the waiter at the place was taken out, and this is the place behind it
  pub record TakesMessageAt (place : ℕ) (old : List (Waiter T W)) (m : Option T) (after : Option ℕ) (new : List (Waiter T W)) : Type 0 where
    pub front : List (Waiter T W)
    pub waiter : Waiter T W
    pub back : List (Waiter T W)
    pub was : old ≡ front ++ waiter ∷ back
    pub place_is : waiter.ticket.place ≡ place
    pub free_before : IsFree place front
    pub free_behind : IsFree place back
    pub message : m ≡ waiter.message
    pub behind : after ≡ first_place back
    pub left : new ≡ front ++ emptied waiter ∷ back

  -- the slot's waiter has the ticket
  abbrev pub has_ticket : Ticket → Option (Slot T W) → Bool
  has_ticket t None = false
  has_ticket t (Some slot) = same_ticket slot.waiter.ticket t

  -- the slab with this waiter in the slot at the place
  abbrev pub with_waiter : Slab (Slot T W) → ℕ → Slot T W → Waiter T W → Slab (Slot T W)
  with_waiter s place slot waiter = with_value s place (record slot { waiter = waiter })

  -- the slab with this W at the place, where the place holds this
  abbrev pub put_w : Slab (Slot T W) → ℕ → Option (Slot T W) → W → Slab (Slot T W)
  put_w s place None w = s
  put_w s place (Some slot) w = with_waiter s place slot (record slot.waiter { w = w })
