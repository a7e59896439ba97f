-- What follows for a journal that replays, and how it grows by one entry.
use Rattle.kanal_journal.proofs.Common.{◌≡◌, ℕ, ◌+◌, true, false, List, [], ◌∷◌, ◌++◌, length, Option, refl, sym, ap, ◌∙◌, subst, inl, inr, arith, length-append, append-nil, length-map, false≢true, messages, line_of, Event, NoMemory, Reply, StepSpec, message_of, refused, no_memory, is_no_memory, Account, Leads, added, made, opening_account, Paired, until, rest, Recording, Replays, Records, events_of, replies_of, next_account, played, recorded_history, longer, RunningStep, IsWithinEvents, IsSame, account_of, Running}
use Rattle.std.proofs.lemmas.List.{map-append}
use Rattle.std.specs.Global.{Vec}
use Rattle.kanal_journal.specs.declared.journal.recorded_state.Entry.{Entry}
use Rattle.kanal_journal.specs.RecordedInside.{JournalIsSound, journal_of}
use Rattle.kanal_journal.proofs.Along.{told_history, holds-opening, holds-along, paired-at, rest-left}
use Rattle.kanal_journal.proofs.Noting.{noted-all, noted-rest, within-same, same-told, same-within}
use Rattle.kanal_journal.proofs.Reading.{refused-handles}
use Rattle.kanal_journal.proofs.Regular.{told-regular, made-found}

module _ {T : Type 0} where
  pub leads-played : (a : Account T) (es : List (Event T)) → Leads a es (played a es)
  leads-played a [] = refl
  leads-played a (e ∷ es) = (next_account a e, (made a.handles a.line e, inl refl, refl), leads-played (next_account a e) es)

  -- the events of a journal that replays lead to its end
  pub replays-leads : (c : Option ℕ) (entries : List (Entry T)) (end : Account T) → Replays c entries end → Leads (opening_account c) (events_of entries) end
  replays-leads c entries end r = subst (Leads (opening_account c) (events_of entries)) r.ends (leads-played (opening_account c) (events_of entries))

  played-append : (a : Account T) (es : List (Event T)) (e : Event T) → played a (es ++ e ∷ []) ≡ next_account (played a es) e
  played-append a [] e = refl
  played-append a (x ∷ es) e = played-append (next_account a x) es e

  -- a journal that replays is paired at every cut
  pub replays-paired : (r : Recording T) → Replays r.capacity r.entries r.account → (n : ℕ) → Paired (until n (recorded_history r))
  replays-paired r k n = rw (sym k.replies) (paired-at r.capacity (events_of r.entries) r.account (replays-leads r.capacity r.entries r.account k) n)

  -- what its line holds is the rest of the kept messages
  pub replays-left : (r : Recording T) → Replays r.capacity r.entries r.account → messages r.account.line.line ≡ rest (recorded_history r)
  replays-left r k =
      let l = replays-leads r.capacity r.entries r.account k in
      let es = events_of r.entries in
      rw (sym k.replies) (rest-left (told_history es r.account) r.account.line (holds-along [] (opening_account r.capacity) r.account es (holds-opening r.capacity) l))

  pub replays-more : (c : Option ℕ) (entries : List (Entry T)) (a : Account T) (x : Entry T) → Replays c entries a → x.reply ≡ (made a.handles a.line x.event).reply → Replays c (entries ++ x ∷ []) (next_account a x.event)
  replays-more c entries a x r is =
      record {
        ends = ap (played (opening_account c)) (map-append (λ (e : Entry T). e.event) entries (x ∷ [])) ∙ (played-append (opening_account c) (events_of entries) x.event ∙ ap (λ b. next_account b x.event) r.ends);
        replies = ap (λ rs. rs ++ (made a.handles a.line x.event).reply ∷ []) r.replies ∙ (ap (λ y. replies_of entries ++ y ∷ []) (sym is) ∙ sym (map-append (λ (e : Entry T). e.reply) entries (x ∷ [])));
      }

  -- an event that was refused for memory told nothing
  refused-same : (a : Account T) (e : Event T) → record (added a e (refused a.line NoMemory e)) { replies = a.replies } ≡ a
  refused-same a e = rw (refused-handles a.handles e NoMemory (message_of e), append-nil a.settled, append-nil a.drained, append-nil a.cleared) refl

  module _ (replies : List (Reply T)) (old new : Running T) (e : Event T) (reply : Reply T) (noted : RunningStep (length replies) old e reply new) where
    -- where there was no memory nothing changed
    noted-nothing : is_no_memory reply ≡ true → (reply ≡ no_memory e) × (account_of replies new ≡ account_of replies old)
    noted-nothing w =
        let a = account_of replies old in
        elim noted.answers [
          | inl p ↦ absurd (false≢true (sym (made-found a.line a.handles e) ∙ (ap (λ (t : StepSpec T). is_no_memory t.reply) (sym p) ∙ (ap is_no_memory (sym noted.replied) ∙ w))))
          | inr p ↦ (noted.replied ∙ ap (λ (t : StepSpec T). t.reply) p.2, noted-rest replies old new e reply noted ∙ (ap (λ (t : StepSpec T). record (added a e t) { replies = replies }) p.2 ∙ refused-same a e))
        ]

    -- otherwise the line's own step was made
    noted-made : is_no_memory reply ≡ false → (reply ≡ (made old.handles (line_of old.core) e).reply) × (account_of (replies ++ reply ∷ []) new ≡ next_account (account_of replies old) e)
    noted-made w =
        elim noted.answers [
          | inl p ↦ (noted.replied ∙ ap (λ (t : StepSpec T). t.reply) p, noted-all replies old new e reply noted ∙ ap (λ (t : StepSpec T). added (account_of replies old) e t) p)
          | inr p ↦ absurd (false≢true (sym w ∙ (ap is_no_memory noted.replied ∙ ap (λ (t : StepSpec T). is_no_memory t.reply) p.2)))
        ]

  longer-is : (c c' : Option ℕ) (entries entries' : List (Entry T)) (a b : Account T) (party : ℕ) (e : Event T) (reply : Reply T)
      → c' ≡ c → entries' ≡ entries ++ record { party = party; event = e; reply = reply } ∷ [] → b ≡ next_account a e
      → ◌≡◌ {A = Recording T} (record { capacity = c'; entries = entries'; account = b }) (longer (record { capacity = c; entries = entries; account = a }) party e reply)
  longer-is c c' entries entries' a b party e reply p q r = cc

  -- where only the room is another, the journal is the same
  same-journal : (entries : List (Entry T)) (old new : Running T) → IsSame old new → journal_of entries new ≡ journal_of entries old
  same-journal entries old new same =
      let f : Account T → Recording T = λ a. record { capacity = a.line.capacity; entries = entries; account = a } in
      ap f (same-told (replies_of entries) old new same)

  module _ (was : List (Entry T)) (old : Running T) (sound : JournalIsSound was old) (start : Running T) (entries : List (Entry T)) (same : IsSame old start) (kept : entries ≡ was) where
    start-journal : journal_of entries start ≡ journal_of was old
    start-journal = ap (λ es. journal_of es start) kept ∙ same-journal was old start same

    start-replays : Replays start.core.capacity entries (account_of (replies_of entries) start)
    start-replays = let P : Recording T → Type 0 = λ r. Replays r.capacity r.entries r.account in subst P (sym start-journal) sound.replays

    module _ (n : ℕ) (count : n ≡ length entries) (mid : Running T) (party : ℕ) (e : Event T) (reply : Reply T) (noted : RunningStep n start e reply mid) (within : IsWithinEvents (n + 1) mid) where
      counted : RunningStep (length (replies_of entries)) start e reply mid
      counted = let P : ℕ → Type 0 = λ k. RunningStep k start e reply mid in subst P (count ∙ sym (length-map entries (λ (x : Entry T). x.reply))) noted

      -- the journal after a step that found memory: one entry more
      entered : (more : List (Entry T)) → is_no_memory reply ≡ false → more ≡ entries ++ record { party = party; event = e; reply = reply } ∷ [] → journal_of more mid ≡ longer (journal_of entries start) party e reply
      entered more said is =
          let m = noted-made (replies_of entries) start mid e reply counted said in
          let rs : replies_of more ≡ replies_of entries ++ reply ∷ [] = ap replies_of is ∙ map-append (λ (x : Entry T). x.reply) entries (record { party = party; event = e; reply = reply } ∷ []) in
          let end : account_of (replies_of more) mid ≡ next_account (account_of (replies_of entries) start) e = ap (λ ys. account_of ys mid) rs ∙ m.1 in
          let capacity : mid.core.capacity ≡ start.core.capacity = ap (λ (a : Account T). a.line.capacity) m.1 ∙ (told-regular (line_of start.core) start.handles e (made start.handles (line_of start.core) e) (inl refl)).capacity in
          longer-is start.core.capacity mid.core.capacity entries more (account_of (replies_of entries) start) (account_of (replies_of more) mid) party e reply capacity is end

      -- a step that found memory, and entered its call
      pub step-made : (more : Vec (Entry T)) → is_no_memory reply ≡ false → more.items ≡ entries ++ record { party = party; event = e; reply = reply } ∷ []
          → JournalIsSound more.items mid × Records (journal_of was old) party e reply (journal_of more.items mid)
      step-made more said is =
          let m = noted-made (replies_of entries) start mid e reply counted said in
          let all = entered more.items said is in
          let P : Recording T → Type 0 = λ r. Replays r.capacity r.entries r.account in
          let Q : Recording T → Type 0 = λ r. Records r party e reply (journal_of more.items mid) in
          let W : ℕ → Type 0 = λ k. IsWithinEvents k mid in
          let x : Entry T = record { party = party; event = e; reply = reply } in (
            record {
              replays = subst P (sym all) (replays-more start.core.capacity entries (account_of (replies_of entries) start) x start-replays m.0);
              within = subst W (let h : n + 1 ≡ length more.items = omega (arith, count, ap length is, length-append entries (x ∷ [])) in h) within;
            },
            subst Q start-journal (inr (m.0, all)),
          )

      -- a step that found no memory
      pub step-still : (still : Vec (Entry T)) → is_no_memory reply ≡ true → still.items ≡ entries → JournalIsSound still.items mid × Records (journal_of was old) party e reply (journal_of still.items mid)
      step-still still said is =
          let m = noted-nothing (replies_of entries) start mid e reply counted said in
          let f : Account T → Recording T = λ a. record { capacity = a.line.capacity; entries = entries; account = a } in
          let all : journal_of still.items mid ≡ journal_of was old = ap (λ es. journal_of es mid) is ∙ (ap f m.1 ∙ start-journal) in
          let P : Recording T → Type 0 = λ r. Replays r.capacity r.entries r.account in
          let W : ℕ → Type 0 = λ k. IsWithinEvents k mid in
          let now : IsWithinEvents (length entries) start = same-within (length entries) old start same (let V : List (Entry T) → Type 0 = λ es. IsWithinEvents (length es) old in subst V (sym kept) sound.within) in (
            record {
              replays = subst P (sym all) sound.replays;
              within = subst W (ap length (sym is)) (within-same (length entries) (replies_of entries) start mid m.1 within.tickets now);
            },
            inl (m.0, all),
          )
