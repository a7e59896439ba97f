-- A send that doesn't wait gives its message back, or the message entered.
use Rattle.kanal_channel.proofs.Common.{◌≡◌, ◌≢◌, ◌==◌, true, Some, None, Ok, Result, Bool, refl, sym, ap, ◌∙◌, inl, inr, subst, cases_Bool, Line, has_place, Event, TrySend, Reply, Yes, No, Refused, step, Call, TriesToSend, IsAnswered, back_by, entered_by, HistoryRelations, comes_replied}
use Rattle.kanal_events.specs.declared.event.Refusal.TheVariants.{Sealed, NoMemory}
use Rattle.kanal_core.specs.declared.error.SendError.{SendError}

module _ {T : Type 0} where
  -- the message entered and nothing comes back, or it comes back
  abbrev pub Backs : T → Reply T → Type 0
  Backs m reply = (entered_by reply ≡ Ok true → back_by reply ≡ None) × (entered_by reply ≢ Ok true → back_by reply ≡ Some m)

  backs-yes : (m : T) → Backs m Yes
  backs-yes m = ((λ _. refl), λ n. absurd (n refl))

  backs-no : (m : T) → Backs m (No m)
  backs-no m = ((λ e. absurd (cc)), λ _. refl)

  backs-refused : (m : T) (reason : _) → Backs m (Refused reason (Some m))
  backs-refused m reason = ((λ e. absurd (cc)), λ _. refl)

  backs-step : (l : Line T) (m : T) → Backs m (step l (TrySend m)).reply
  backs-step l m =
      elim (cases_Bool (l.receivers == 0)) [
        | inl a ↦ rw a (backs-refused m _)
        | inr a ↦ elim (cases_Bool (l.senders == 0)) [
          | inl b ↦ rw (a, b) (backs-refused m Sealed)
          | inr b ↦ elim (cases_Bool (has_place l)) [
            | inl c ↦ rw (a, b, c) (backs-yes m)
            | inr c ↦ rw (a, b, c) (backs-no m)
          ]
        ]
      ]

  module _ {P : Type 0} (w : HistoryRelations T P) (old new : P) (m : T) (reply : Reply T) (answered : IsAnswered w old new (TrySend m) reply) where
    backs : Backs m reply
    backs =
        elim answered [
          | inl r ↦ subst (Backs m) (sym (r.reads ∙ (ap (λ (c : Call T). c.reply) r.told.1 ∙ ap (λ (e : Event T). (step r.told.0 e).reply) r.asked))) (backs-step r.told.0 m)
          | inr r ↦ subst (Backs m) (sym r.1) (backs-refused m NoMemory)
        ]

    -- what a send that doesn't wait answers, as its reply reads
    pub offered : (answer : Result Bool SendError) → answer ≡ entered_by reply → TriesToSend w old new m answer
    offered answer is = comes_replied w old new (TrySend m) entered_by _ answer reply answered refl is

    pub sent_leaves : entered_by reply ≡ Ok true → back_by reply ≡ None
    sent_leaves = backs.0

    pub refused_stays : entered_by reply ≢ Ok true → back_by reply ≡ Some m
    refused_stays = backs.1
