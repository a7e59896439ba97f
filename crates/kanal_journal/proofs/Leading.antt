-- A list of events goes on by one.
use Rattle.kanal_journal.proofs.Common.{List, [], ◌∷◌, ◌++◌, refl, subst, Event, Account, AccountStep, Leads}

pub Leads-last : {T : Type 0} (a b c : Account T) (events : List (Event T)) (event : Event T) → Leads a events b → AccountStep b event c → Leads a (events ++ event ∷ []) c
Leads-last {T} a b c [] event h k = let P : Account T → Type 0 = λ x. AccountStep x event c in (c, subst P h k, refl)
Leads-last a b c (e ∷ es) event h k = (h.0, h.1, Leads-last h.0 b c es event h.2 k)
