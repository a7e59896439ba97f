-- What holds along every list of events, and at each cut of it.
use Rattle.kanal_journal.proofs.Common.{◌≡◌, ℕ, ◌+◌, ◌≤◌, ◌<◌, ◌⊎◌, zero, suc, ltb, List, [], ◌∷◌, ◌++◌, length, filter, take, drop, Option, Some, refl, sym, ap, ◌∙◌, subst, inl, inr, arith, length-append, append-nil, append_assoc, cases_lt, false≢true, lt-ltb, take_all, take-take, length-take, Line, LineEntry, messages, Event, Reply, Settlement, Account, Leads, opening_account, opening_line, numbered, PairedHistory, Demand, AtOnce, Later, Next, Paired, demands, receipts, receipts_from, rest, until, given}
use Rattle.std.proofs.Math.Seq.{take-append_seam, drop-append_seam}
use Rattle.kanal_journal.proofs.Slots.{nexts}
use Rattle.kanal_journal.proofs.Holding.{Holds, kept_is, demands_count, holds_paired}
use Rattle.kanal_journal.proofs.Ending.{seats-none}
use Rattle.kanal_journal.proofs.EachStep.{told-holds}
use Rattle.kanal_journal.proofs.Cuts.{AllBefore, grows, settled_before, before_more, before-append}

module _ {T : Type 0} where
  -- the history that an account tells of these events
  abbrev pub told_history : List (Event T) → Account T → PairedHistory T
  told_history es a = record { events = es; replies = a.replies; settled = a.settled; drained = a.drained }

  pub holds-opening : (c : Option ℕ) → Holds (told_history [] (opening_account c)) (opening_line c)
  holds-opening c =
      record {
        same = refl;
        served = [];
        entries_is = refl;
        slots_is = refl;
        one = inl refl;
        shut = inl refl;
        all_drained = refl;
        known = λ t k. absurd (false≢true k);
        below = λ t k. absurd (false≢true k);
        apart = tt;
        seats = seats-none T c;
      }

  -- it holds after every list of events
  pub holds-along : (past : List (Event T)) (a b : Account T) (events : List (Event T)) → Holds (told_history past a) a.line → Leads a events b → Holds (told_history (past ++ events) b) b.line
  holds-along past a b [] h l =
      let P : Account T → Type 0 = λ x. Holds (told_history past x) x.line in
      rw append-nil (subst P (sym l) h)
  holds-along past a b (e ∷ es) h l =
      let told = l.1.0 in
      let P : Account T → Type 0 = λ x. Holds (told_history (past ++ e ∷ []) x) x.line in
      let next : P l.0 = subst P (sym l.1.2) (told-holds (told_history past a) a.line h (length a.replies) a.handles e told l.1.1) in
      let Q : List (Event T) → Type 0 = λ xs. Holds (told_history xs b) b.line in
      subst Q (append_assoc past (e ∷ []) es) (holds-along (past ++ e ∷ []) l.0 b es next l.2)

  one-longer : (a : Account T) (r : Reply T) → length (a.replies ++ r ∷ []) ≡ length a.replies + 1
  one-longer a r = omega (arith, length-append a.replies (r ∷ []))

  -- there are as many replies as events
  pub replies-count : (a b : Account T) (events : List (Event T)) → Leads a events b → length b.replies ≡ length a.replies + length events
  replies-count a b [] l = omega (arith, ap (λ x. length x.replies) l)
  replies-count a b (e ∷ es) l = omega (arith, replies-count l.0 b es l.2, ap (λ x. length x.replies) l.1.2, one-longer a l.1.0.reply)

  -- the replies so far are the first of all
  replies-grow : (a b : Account T) (events : List (Event T)) → Leads a events b → take (length a.replies) b.replies ≡ a.replies
  replies-grow a b [] l = rw l (take_all (length a.replies) a.replies (omega arith))
  replies-grow a b (e ∷ es) l =
      let is : l.0.replies ≡ a.replies ++ l.1.0.reply ∷ [] = ap (λ x. x.replies) l.1.2 in
      let long : length a.replies ≤ length l.0.replies = omega (arith, ap length is, length-append a.replies (l.1.0.reply ∷ [])) in
      sym (take-take (length a.replies) (length l.0.replies) b.replies long) ∙ rw (replies-grow l.0 b es l.2, is) (take-append_seam a.replies (l.1.0.reply ∷ []))

  numbered-before : (n : ℕ) (ss : _) → AllBefore {T = T} (n + 1) (numbered n ss)
  numbered-before n [] = tt
  numbered-before n (s ∷ ss) = (omega arith, numbered-before n ss)

  -- each settlement is of an earlier step
  pub settled-earlier : (a b : Account T) (events : List (Event T)) → Leads a events b → AllBefore (length a.replies) a.settled → AllBefore (length b.replies) b.settled
  settled-earlier a b [] l h = rw l h
  settled-earlier a b (e ∷ es) l h =
      let told = l.1.0 in
      let P : Account T → Type 0 = λ x. AllBefore (length x.replies) x.settled in
      let k = length a.replies in
      let old : AllBefore (k + 1) a.settled = before_more k (k + 1) a.settled (omega arith) h in
      let all : AllBefore (k + 1) (a.settled ++ numbered k told.settled) = before-append (k + 1) a.settled (numbered k told.settled) old (numbered-before k told.settled) in
      let Q : ℕ → Type 0 = λ m. AllBefore m (a.settled ++ numbered k told.settled) in
      settled-earlier l.0 b es l.2 (subst P (sym l.1.2) (subst Q (sym (one-longer a told.reply)) all))

  -- the first n events lead to an account of their own, and the others on from it
  pub record Cut (a b : Account T) (events : List (Event T)) (n : ℕ) : Type 0 where
    pub mid : Account T
    pub first : Leads a (take n events) mid
    pub others : Leads mid (drop n events) b

  pub cut : (a b : Account T) (events : List (Event T)) (n : ℕ) → Leads a events b → Cut a b events n
  cut a b events zero l = record { mid = a; first = refl; others = l }
  cut a b [] (suc n) l = record { mid = a; first = refl; others = l }
  cut a b (e ∷ es) (suc n) l = let m = cut l.0 b es n l.2 in record { mid = m.mid; first = (l.0, l.1, m.first); others = m.others }

  filter-all : (n : ℕ) (ss : List (Settlement T)) → AllBefore n ss → filter (λ s. ltb s.step n) ss ≡ ss
  filter-all n [] a = refl
  filter-all n (s ∷ ss) a = rw (lt-ltb s.step n a.0) (ap (λ xs. s ∷ xs) (filter-all n ss a.1))

  -- what is drained later is read by no demand so far
  receipts-more : (ss : List (Settlement T)) (ds : List (Demand T)) (ms ns : List T) → nexts ds ≡ length ms → receipts_from ss ds (ms ++ ns) ≡ receipts_from ss ds ms
  receipts-more ss [] ms ns h = refl
  receipts-more ss (AtOnce m ∷ ds) ms ns h = ap (λ xs. Some m ∷ xs) (receipts-more ss ds ms ns h)
  receipts-more ss (Later t ∷ ds) ms ns h = ap (λ xs. given ss t ∷ xs) (receipts-more ss ds ms ns h)
  receipts-more ss (Next ∷ ds) [] ns h = absurd (omega arith)
  receipts-more ss (Next ∷ ds) (m ∷ ms) ns h = ap (λ xs. Some m ∷ xs) (receipts-more ss ds ms ns (omega arith))

  same-history : (es : List (Event T)) (rs rs' : List (Reply T)) (ss ss' : List (Settlement T)) (ms ms' : List T) → rs ≡ rs' → ss ≡ ss' → ms ≡ ms'
      → ◌≡◌ {A = PairedHistory T} (record { events = es; replies = rs; settled = ss; drained = ms }) (record { events = es; replies = rs'; settled = ss'; drained = ms' })
  same-history es rs rs' ss ss' ms ms' p q r = rw (p, q, r) refl

  module _ (c : Option ℕ) (events : List (Event T)) (b : Account T) (l : Leads (opening_account c) events b) (n : ℕ) where
    at : Cut (opening_account c) b events n
    at = cut (opening_account c) b events n l

    abbrev mid : Account T
    mid = at.mid

    mid-count : length mid.replies ≡ length (take n events)
    mid-count = let k = replies-count (opening_account c) mid (take n events) at.first in omega (arith, k)

    mid-earlier : AllBefore (length mid.replies) mid.settled
    mid-earlier = settled-earlier (opening_account c) mid (take n events) at.first tt

    short : n ≤ length events → length mid.replies ≡ n
    short h = omega (arith, mid-count, length-take n events)

    long : length events < n → b ≡ mid
    long h = go (drop n events) (drop-past n events h) at.others
      where
        drop-past : (k : ℕ) (es : List (Event T)) → length es < k → drop k es ≡ []
        drop-past zero es h = absurd (omega arith)
        drop-past (suc k) [] h = refl
        drop-past (suc k) (e ∷ es) h = drop-past k es (omega arith)

        go : (es : List (Event T)) → es ≡ [] → Leads mid es b → b ≡ mid
        go [] is o = o
        go (e ∷ es) is o = absurd (cc)

    mid-replies : take n b.replies ≡ mid.replies
    mid-replies =
        elim (cases_lt (length events) n) [
          | inl past ↦ ap (λ (x : Account T). take n x.replies) (long past) ∙ take_all n mid.replies (omega (arith, mid-count, length-take n events))
          | inr within ↦ ap (λ k. take k b.replies) (sym (short within)) ∙ replies-grow mid b (drop n events) at.others
        ]

    mid-settled : filter (λ s. ltb s.step n) b.settled ≡ mid.settled
    mid-settled =
        elim (cases_lt (length events) n) [
          | inl past ↦ ap (λ (x : Account T). filter (λ (s : Settlement T). ltb s.step n) x.settled) (long past) ∙ (filter-all n mid.settled (before_more (length mid.replies) n mid.settled (omega (arith, mid-count, length-take n events)) mid-earlier))
          | inr within ↦ ap (λ k. filter (λ (s : Settlement T). ltb s.step k) b.settled) (sym (short within)) ∙ settled_before mid b (drop n events) at.others mid-earlier
        ]

    mid-holds : Holds (told_history (take n events) mid) mid.line
    mid-holds = holds-along [] (opening_account c) mid (take n events) (holds-opening c) at.first

    -- the history at the cut is paired
    pub paired-at : Paired (until n (told_history events b))
    paired-at =
        let later = grows mid b (drop n events) at.others in
        let first : PairedHistory T = told_history (take n events) mid in
        let there : PairedHistory T = record first { drained = mid.drained ++ later.drained } in
        let more : receipts there ≡ receipts first = receipts-more mid.settled (demands first) mid.drained later.drained mid-holds.all_drained in
        let whole : Paired there = rw more (holds_paired first mid.line mid-holds) in
        subst Paired (sym (same-history (take n events) (take n b.replies) mid.replies (filter (λ s. ltb s.step n) b.settled) mid.settled b.drained (mid.drained ++ later.drained) mid-replies mid-settled later.drained_is)) whole

  drop-beyond : (n : ℕ) (xs : List T) → length xs ≤ n → drop n xs ≡ []
  drop-beyond zero [] h = refl
  drop-beyond zero (x ∷ xs) h = absurd (omega arith)
  drop-beyond (suc n) [] h = refl
  drop-beyond (suc n) (x ∷ xs) h = drop-beyond n xs (omega arith)

  rest-is : (served : List T) (line : List (LineEntry T)) (ds : List ℕ) → (line ≡ []) ⊎ (ds ≡ []) → messages line ≡ drop (length served + length ds) (served ++ messages line)
  rest-is served line ds (inl empty) =
      let short : length (served ++ messages {T = T} []) ≤ length served + length ds = omega (arith, length-append served (messages {T = T} [])) in
      rw empty (sym (drop-beyond (length served + length ds) (served ++ []) short))
  rest-is served line ds (inr none) =
      let count : length served ≡ length served + length ds = omega (arith, ap length none) in
      sym (drop-append_seam served (messages line)) ∙ ap (λ k. drop k (served ++ messages line)) count

  -- what the line holds is the rest of the kept messages
  pub rest-left : (h : PairedHistory T) (l : Line T) → Holds h l → messages l.line ≡ rest h
  rest-left h l now = rw (kept_is h l now, demands_count h l now) (rest-is now.served l.line l.demands now.one)
