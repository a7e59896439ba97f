-- What the history says of each demand, one step later.
use Rattle.kanal_journal.proofs.Common.{◌≡◌, ℕ, suc, Bool, true, false, not, List, [], ◌∷◌, ◌++◌, length, map, filter, Option, Some, None, refl, sym, ap, ◌∙◌, inl, inr, arith, option_or, cases_Bool, filter-append, map-append, Event, Reply, Settlement, PairedHistory, Demand, AtOnce, Later, Next, along, sent, asked, is_gone, send_stays, demand_stays, demands, given, gift, receipts_from}
use Rattle.kanal_journal.proofs.Sends.{along-last, longer, goes, gone-last, entries, entry_at, entries_old, was_taken, later, ticket_stays, fresh}

module _ {T : Type 0} where
  abbrev pub slot_of : ℕ → Option T → Demand T
  slot_of t None = Later t
  slot_of t (Some m) = AtOnce m

  -- the demands with what they received so far put in
  abbrev pub resolve : List (Settlement T) → List (Demand T) → List T → List (Demand T)
  resolve ss [] ms = []
  resolve ss (AtOnce m ∷ ds) ms = AtOnce m ∷ resolve ss ds ms
  resolve ss (Later t ∷ ds) ms = slot_of t (given ss t) ∷ resolve ss ds ms
  resolve ss (Next ∷ ds) [] = Next ∷ resolve ss ds []
  resolve ss (Next ∷ ds) (m ∷ ms) = AtOnce m ∷ resolve ss ds ms

  abbrev pub receipt_of : Demand T → Option T
  receipt_of (AtOnce m) = Some m
  receipt_of (Later t) = None
  receipt_of Next = None

  receipt_slot : (t : ℕ) (o : Option T) → o ≡ receipt_of (slot_of t o)
  receipt_slot t None = refl
  receipt_slot t (Some m) = refl

  pub receipts_resolved : (ss : List (Settlement T)) (ds : List (Demand T)) (ms : List T) → receipts_from ss ds ms ≡ map receipt_of (resolve ss ds ms)
  receipts_resolved ss [] ms = refl
  receipts_resolved ss (AtOnce m ∷ ds) ms = ap (λ xs. Some m ∷ xs) (receipts_resolved ss ds ms)
  receipts_resolved ss (Later t ∷ ds) ms = rw (← receipt_slot t (given ss t)) (ap (λ xs. given ss t ∷ xs) (receipts_resolved ss ds ms))
  receipts_resolved ss (Next ∷ ds) [] = ap (λ xs. None ∷ xs) (receipts_resolved ss ds [])
  receipts_resolved ss (Next ∷ ds) (m ∷ ms) = ap (λ xs. Some m ∷ xs) (receipts_resolved ss ds ms)

  abbrev pub nexts : List (Demand T) → ℕ
  nexts [] = 0
  nexts (AtOnce m ∷ ds) = nexts ds
  nexts (Later t ∷ ds) = nexts ds
  nexts (Next ∷ ds) = suc (nexts ds)

  pub resolve-append : (ss : List (Settlement T)) (ds es : List (Demand T)) (ms ns : List T) → nexts ds ≡ length ms → resolve ss (ds ++ es) (ms ++ ns) ≡ resolve ss ds ms ++ resolve ss es ns
  resolve-append ss [] es [] ns h = refl
  resolve-append ss [] es (m ∷ ms) ns h = absurd (omega arith)
  resolve-append ss (AtOnce m ∷ ds) es ms ns h = ap (λ xs. AtOnce m ∷ xs) (resolve-append ss ds es ms ns h)
  resolve-append ss (Later t ∷ ds) es ms ns h = ap (λ xs. slot_of t (given ss t) ∷ xs) (resolve-append ss ds es ms ns h)
  resolve-append ss (Next ∷ ds) es [] ns h = absurd (omega arith)
  resolve-append ss (Next ∷ ds) es (m ∷ ms) ns h = ap (λ xs. AtOnce m ∷ xs) (resolve-append ss ds es ms ns (omega arith))

  option_or_assoc : (a b c : Option T) → option_or (option_or a b) c ≡ option_or a (option_or b c)
  option_or_assoc None b c = refl
  option_or_assoc (Some m) b c = refl

  pub given-append : (ss ns : List (Settlement T)) (t : ℕ) → given (ss ++ ns) t ≡ option_or (given ss t) (given ns t)
  given-append [] ns t = refl
  given-append (s ∷ ss) ns t = ap (λ o. option_or (gift t s) o) (given-append ss ns t) ∙ sym (option_or_assoc (gift t s) (given ss t) (given ns t))

  -- one step's effect on a demand
  abbrev pub slot_stays : Event T → Reply T → List (Settlement T) → Demand T → Bool
  slot_stays e r ss (Later t) = not (goes e r ss t)
  slot_stays e r ss (AtOnce m) = true
  slot_stays e r ss Next = true

  abbrev pub answered : List (Settlement T) → Demand T → Demand T
  answered ss (Later t) = slot_of t (given ss t)
  answered ss (AtOnce m) = AtOnce m
  answered ss Next = Next

  abbrev pub slots : PairedHistory T → List (Demand T)
  slots h = resolve h.settled (demands h) h.drained

  module _ (h : PairedHistory T) (e : Event T) (r : Reply T) (ss : List (Settlement T)) (ms : List T) (same : length h.events ≡ length h.replies) where
    module _ (once : (t : ℕ) (m : T) → given h.settled t ≡ Some m → goes e r ss t ≡ false) where
      slot_last : (t : ℕ) (o : Option T) → given h.settled t ≡ o → (xs ys : List (Demand T)) → xs ≡ map (answered ss) (filter (slot_stays e r ss) ys) → goes e r ss t ≡ false
          → slot_of t (given (h.settled ++ ss) t) ∷ xs ≡ map (answered ss) (filter (slot_stays e r ss) (slot_of t o ∷ ys))
      slot_last t None g xs ys rec o = rw (given-append h.settled ss t, g, o) (ap (λ zs. slot_of t (given ss t) ∷ zs) rec)
      slot_last t (Some m) g xs ys rec o = rw (given-append h.settled ss t, g) (ap (λ zs. AtOnce m ∷ zs) rec)

      slot_gone : (t : ℕ) (o : Option T) → given h.settled t ≡ o → (xs ys : List (Demand T)) → xs ≡ map (answered ss) (filter (slot_stays e r ss) ys) → goes e r ss t ≡ true
          → xs ≡ map (answered ss) (filter (slot_stays e r ss) (slot_of t o ∷ ys))
      slot_gone t None g xs ys rec o = rw o rec
      slot_gone t (Some m) g xs ys rec o = absurd (cc (once t m g))

      pub slots_old : (ds : List (Demand T)) (ns : List T) → resolve (h.settled ++ ss) (filter (demand_stays (longer h e r ss ms)) ds) ns
          ≡ map (answered ss) (filter (slot_stays e r ss) (resolve h.settled (filter (demand_stays h) ds) ns))
      slots_old [] ns = refl
      slots_old (AtOnce m ∷ ds) ns = ap (λ xs. AtOnce m ∷ xs) (slots_old ds ns)
      slots_old (Next ∷ ds) [] = ap (λ xs. Next ∷ xs) (slots_old ds [])
      slots_old (Next ∷ ds) (n ∷ ns) = ap (λ xs. AtOnce n ∷ xs) (slots_old ds ns)
      slots_old (Later t ∷ ds) ns =
          let rec = slots_old ds ns in
          elim (cases_Bool (is_gone h t)) [
            | inl g ↦ rw (gone-last h e r ss ms same t, g) rec
            | inr g ↦
                elim (cases_Bool (goes e r ss t)) [
                  | inl o ↦ rw (gone-last h e r ss ms same t, g, o) (slot_gone t (given h.settled t) refl _ _ rec o)
                  | inr o ↦ rw (gone-last h e r ss ms same t, g, o) (slot_last t (given h.settled t) refl _ _ rec o)
                ]
          ]

      -- the demands one step later, where those of the step itself are new
      pub slots_last : nexts (demands h) ≡ length h.drained → filter (demand_stays (longer h e r ss ms)) (asked e r) ≡ asked e r
          → nexts (filter (demand_stays (longer h e r ss ms)) (along asked h.events h.replies)) ≡ length h.drained
          → slots (longer h e r ss ms) ≡ map (answered ss) (filter (slot_stays e r ss) (slots h)) ++ resolve (h.settled ++ ss) (asked e r) ms
      slots_last n k n' =
          rw (along-last asked h.events h.replies e r same, filter-append, k)
          (resolve-append (h.settled ++ ss) _ (asked e r) h.drained ms n' ∙ ap (λ xs. xs ++ resolve (h.settled ++ ss) (asked e r) ms) (slots_old (along asked h.events h.replies) h.drained))

    -- the entries one step later, where that of the step itself is new
    pub entries_last : ((t : ℕ) → was_taken h.settled t ≡ true → goes e r ss t ≡ false) → filter (send_stays (longer h e r ss ms)) (sent e r) ≡ sent e r → map (entry_at (h.settled ++ ss)) (sent e r) ≡ map fresh (sent e r)
        → entries (longer h e r ss ms) ≡ map (later ss) (filter (λ x. ticket_stays e r ss x.ticket) (entries h)) ++ map fresh (sent e r)
    entries_last once k f =
        rw (along-last sent h.events h.replies e r same, filter-append, k, map-append, f)
        (ap (λ xs. xs ++ map fresh (sent e r)) (entries_old h e r ss ms same once (along sent h.events h.replies)))
