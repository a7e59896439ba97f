-- A party's list that is read note by note, beside the journal.
use Rattle.kanal_recorded.proofs.Common.{◌≡◌, ◌≢◌, ℕ, ◌+◌, ◌<◌, ◌≤◌, ◌-◌, Bool, true, false, cond, nat_eq, nat_lt, List, [], ◌∷◌, ◌++◌, length, get_or, set, replicate, take, drop, refl, sym, ap, subst, inl, inr, ◌∙◌, arith, length-take, length-drop, length-append, append-nil, map, All, AllWithin, take_more, take_all, map-append, get_or_default, take-append-drop, take-append-le, get_or-replicate, get_or-take, get_or-drop, get_or-set_same, get_or-set_other, AllWithin-more, nat_tests, Entry, Calls, Placed, placed, calls_of, NotesAmong, IsNoteOf, NotesFit, HasReached, HaveReached, AreAtEnd, Reached}
use Rattle.std.proofs.lemmas.Bool.{cases_Bool}
use Rattle.kanal_recorded.specs.declared.pass.Note.{Note}

module _ {T : Type 0} where
  calls-cond : (b : Bool) (x : Placed T) (xs ys : List (Placed T)) → cond b (x ∷ (xs ++ ys)) (xs ++ ys) ≡ cond b (x ∷ xs) xs ++ ys
  calls-cond true x xs ys = refl
  calls-cond false x xs ys = refl

  calls_of_append : (party at : ℕ) (es fs : List (Entry T)) → calls_of party at (es ++ fs) ≡ calls_of party at es ++ calls_of party (at + length es) fs
  calls_of_append party at [] fs = rw (let h : at + 0 ≡ at = omega arith in h) refl
  calls_of_append party at (x ∷ es) fs =
      let h : (at + 1) + length es ≡ at + length (x ∷ es) = omega arith in
      ap (λ zs. cond (nat_eq x.party party) (record { event = x.event; reply = x.reply; place = at } ∷ zs) zs) (calls_of_append party (at + 1) es fs ∙ ap (λ k. calls_of party (at + 1) es ++ calls_of party k fs) h)
      ∙ calls-cond (nat_eq x.party party) (record { event = x.event; reply = x.reply; place = at }) (calls_of party (at + 1) es) (calls_of party (at + length (x ∷ es)) fs)

  -- after k notes, all of places before m: how far the list of a party was compared
  abbrev SoFar : ℕ → List (Entry T) → List (Note T) → ℕ → ℕ → Type 0
  SoFar party es ns k m = (m ≤ length es) × NotesFit (map placed (take k ns)) k (calls_of party 0 (take m es)) × AllWithin (λ n. n.seen ≤ n.place) ns 0 k

  fits_more : (ns : List (Placed T)) (k : ℕ) (cs ds bs : List (Placed T)) → bs ≡ cs ++ ds → NotesFit ns k cs → NotesFit ns k bs
  fits_more ns k cs [] bs is h =
      let same : bs ≡ cs = is ∙ append-nil cs in
      rw same h
  fits_more ns k cs (d ∷ ds) bs is h =
      let long : length bs ≡ length cs + length (d ∷ ds) = ap (λ (zs : List (Placed T)). length zs) is ∙ length-append cs (d ∷ ds) in
      let below : k ≤ length cs = h.0 in
      (omega (arith, long, below), λ e. absurd (omega (arith, long, below, e)))

  fits_next : (ns : List (Placed T)) (k : ℕ) (cs : List (Placed T)) (x : Placed T) → NotesFit ns k cs → NotesFit (ns ++ x ∷ []) (k + 1) (cs ++ x ∷ [])
  fits_next ns k cs x h =
      let long : length (cs ++ x ∷ []) ≡ length cs + 1 = length-append cs (x ∷ []) in
      let below : k ≤ length cs = h.0 in
      (omega (arith, long, below), λ e. ap (λ zs. zs ++ x ∷ []) (h.1 (omega (arith, long, e))))

  take_length : (es : List (Entry T)) (i : ℕ) → i ≤ length es → length (take i es) ≡ i
  take_length es i h = grind (arith, length-take)

  take_split : (es : List (Entry T)) (m q : ℕ) → m ≤ q → q ≤ length es → take q es ≡ take m es ++ drop m (take q es)
  take_split es m q l w =
      let whole : take q es ++ drop q es ≡ es = take-append-drop q es in
      let long : length (take q es) ≡ q = take_length es q w in
      let begin : take m es ≡ take m (take q es) = ap (take m) (sym whole) ∙ take-append-le m (take q es) (drop q es) (omega (arith, long, l)) in
      sym (ap (λ zs. zs ++ drop m (take q es)) begin ∙ take-append-drop m (take q es))

  so_far_later : (party : ℕ) (es : List (Entry T)) (ns : List (Note T)) (k m q : ℕ) → m ≤ q → q ≤ length es → SoFar party es ns k m → SoFar party es ns k q
  so_far_later party es ns k m q l w h =
      let split = ap (calls_of party 0) (take_split es m q l w) ∙ calls_of_append party 0 (take m es) (drop m (take q es)) in
      (w, fits_more (map placed (take k ns)) k (calls_of party 0 (take m es)) (calls_of party (0 + length (take m es)) (drop m (take q es))) (calls_of party 0 (take q es)) split h.1, h.2)

  calls_of_more : (party : ℕ) (es : List (Entry T)) (i : ℕ) (e : Entry T) → i < length es → e ≡ get_or es i e → calls_of party 0 (take (i + 1) es) ≡ calls_of party 0 (take i es) ++ calls_of party i (e ∷ [])
  calls_of_more party es i e l is =
      ap (calls_of party 0) (take_more es i e l ∙ ap (λ z. take i es ++ z ∷ []) (sym is))
      ∙ calls_of_append party 0 (take i es) (e ∷ [])
      ∙ ap (λ k. calls_of party 0 (take i es) ++ calls_of party k (e ∷ [])) (let h : 0 + length (take i es) ≡ i = let t = take_length es i (omega arith) in omega (arith, t) in h)

  map_more : (ns : List (Note T)) (k : ℕ) (n : Note T) → k < length ns → n ≡ get_or ns k n → map placed (take (k + 1) ns) ≡ map placed (take k ns) ++ placed n ∷ []
  map_more ns k n l is = ap (map placed) (take_more ns k n l ∙ ap (λ z. take k ns ++ z ∷ []) (sym is)) ∙ map-append placed (take k ns) (n ∷ [])

  -- nothing was compared
  pub nothing_reached : (es : List (Entry T)) (p : Calls T) → HasReached es p (record { notes = 0; entries = 0 })
  nothing_reached es p = record { within = omega arith; before = omega arith; fits = (omega arith, λ _. refl); seen = λ a d l m. absurd (omega (arith, m)) }

  so_far_more : (party : ℕ) (es : List (Entry T)) (ns : List (Note T)) (k m : ℕ) (e : Entry T) (n : Note T)
      → m ≤ n.place → n.place < length es → e ≡ get_or es n.place e → k < length ns → n ≡ get_or ns k n → e.party ≡ party → IsNoteOf e n
      → SoFar party es ns k m → SoFar party es ns (k + 1) (n.place + 1)
  so_far_more party es ns k m e n mi li ei lk nk p same h =
      let test : nat_eq e.party party ≡ true = grind (arith, nat_tests, p) in
      let one_is : calls_of party n.place (e ∷ []) ≡ placed n ∷ [] = rw (test, same.0, same.1) refl in
      let here = so_far_later party es ns k m n.place mi (omega (arith, li)) h in
      let calls = calls_of_more party es n.place e li ei ∙ ap (λ z. calls_of party 0 (take n.place es) ++ z) one_is in (
        omega (arith, li),
        rw (map_more ns k n lk nk, calls) (fits_next (map placed (take k ns)) k (calls_of party 0 (take n.place es)) (placed n) here.1),
        AllWithin-more (λ (x : Note T). x.seen ≤ x.place) ns 0 k h.2 (λ d. rw (get_or_default ns k d n lk ∙ sym nk) same.2),
      )

  -- one note more is compared, and is of its entry
  pub one_more_reached : (es : List (Entry T)) (p : Calls T) (k m : ℕ) (e : Entry T) (n : Note T)
      → m ≤ n.place → n.place < length es → e ≡ get_or es n.place e → k < length p.notes → n ≡ get_or p.notes k n → e.party ≡ p.party → IsNoteOf e n
      → HasReached es p (record { notes = k; entries = m }) → HasReached es p (record { notes = k + 1; entries = n.place + 1 })
  one_more_reached es p k m e n mi li ei lk nk party same h = let more = so_far_more p.party es p.notes k m e n mi li ei lk nk party same (h.before, h.fits, h.seen) in
      record { within = omega (arith, lk); before = more.0; fits = more.1; seen = more.2 }

  -- a list that was compared to its end is of the party's entries
  pub whole_reached : (es : List (Entry T)) (p : Calls T) (r : Reached) → r.notes ≡ length p.notes → HasReached es p r → NotesAmong es p
  whole_reached es p r count h =
      let end = so_far_later p.party es p.notes r.notes r.entries (length es) h.before (omega arith) (h.before, h.fits, h.seen) in
      let whole : take r.notes p.notes ≡ p.notes = take_all r.notes p.notes (omega (arith, count)) in
      let all : take (length es) es ≡ es = take_all (length es) es (omega arith) in
      let fits : NotesFit (map placed p.notes) (length p.notes) (calls_of p.party 0 es) = rw (sym count, sym whole, sym all) end.1 in
      (fits.0, λ e. (fits.1 e, λ a d l. h.seen a d (omega arith) (omega (arith, count, l))))

  -- at the beginning nothing was compared of any list
  pub none_reached : (es : List (Entry T)) (ps : List (Calls T)) (n : ℕ) → length ps ≤ n → HaveReached es ps (replicate n (record { notes = 0; entries = 0 }))
  none_reached es ps n few k p r l = rw (get_or-replicate n k (record { notes = 0; entries = 0 }) r (omega (arith, few, l))) (nothing_reached es (get_or ps k p))

  -- one pass has come further
  pub further_reached : (es : List (Entry T)) (ps : List (Calls T)) (rs : List Reached) (i : ℕ) (x : Reached) → i < length rs → ((d : Calls T) → HasReached es (get_or ps i d) x) → HaveReached es ps rs → HaveReached es ps (set rs i x)
  further_reached es ps rs i x l one h k p r m =
      elim (cases_Bool (nat_eq i k)) [
        | inl same ↦
            let here : i ≡ k = grind (arith, nat_tests, same) in
            subst (λ j. HasReached es (get_or ps j p) (get_or (set rs i x) j r)) here (rw (get_or-set_same rs i x r l) (one p))
        | inr other ↦
            let there : k ≢ i = grind (arith, nat_tests, other) in
            rw (get_or-set_other rs i k x r there) (h k p r m)
      ]

  -- lists that were all compared to their ends are of their parties' entries
  pub all_reached : (es : List (Entry T)) (ps : List (Calls T)) (rs : List Reached) → HaveReached es ps rs → AreAtEnd ps rs (length ps) → All (NotesAmong es) ps
  all_reached es ps rs h end k p l = let r : Reached = record { notes = 0; entries = 0 } in whole_reached es (get_or ps k p) (get_or rs k r) (end k p r l) (h k p r l)

  -- one list more is at its end
  pub one_more_at_end : (ps : List (Calls T)) (rs : List Reached) (i : ℕ) (x : Calls T) (e : Reached) → i < length ps → i < length rs → x ≡ get_or ps i x → (get_or rs i e).notes ≡ length x.notes → AreAtEnd ps rs i → AreAtEnd ps rs (i + 1)
  one_more_at_end ps rs i x e inside kept is end before k p r l =
      elim (cases_Bool (nat_lt k i)) [
        | inl old ↦ before k p r (grind (arith, nat_tests, old))
        | inr new ↦
            let here : k ≡ i = grind (arith, nat_tests, new, l) in
            rw (here, get_or_default rs i r e kept, get_or_default ps i p x inside ∙ sym is) end
      ]

  -- lists that were compared a group at a time
  pub group_reached : (es : List (Entry T)) (ps : List (Calls T)) (first last : ℕ) → first ≤ last → last ≤ length ps → AllWithin (NotesAmong es) ps 0 first → All (NotesAmong es) (take (last - first) (drop first ps)) → AllWithin (NotesAmong es) ps 0 last
  group_reached es ps first last some fits before group k d low high =
      elim (cases_Bool (nat_lt k first)) [
        | inl old ↦ before k d low (grind (arith, nat_tests, old))
        | inr new ↦
            let past : first ≤ k = grind (arith, nat_tests, new) in
            let place : first + (k - first) ≡ k = omega (arith, past) in
            let inside : k - first < last - first = omega (arith, past, high) in
            let long : length (take (last - first) (drop first ps)) ≡ last - first = grind (arith, length-take, length-drop, some, fits) in
            let same : get_or (take (last - first) (drop first ps)) (k - first) d ≡ get_or ps k d =
            get_or-take (last - first) (drop first ps) (k - first) d inside ∙ get_or-drop first ps (k - first) d ∙ ap (λ i. get_or ps i d) place in
            subst (NotesAmong es) same (group (k - first) d (omega (arith, long, inside)))
      ]
