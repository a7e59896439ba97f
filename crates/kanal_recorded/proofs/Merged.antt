-- A merged journal has as many entries as the lists together, and lists of its entries that are as many are merged in it.
use Rattle.kanal_recorded.proofs.Common.{◌≡◌, ℕ, zero, suc, ◌+◌, ◌<◌, ◌≤◌, Bool, true, false, cond, nat_eq, List, [], ◌∷◌, length, get_or, refl, sym, ap, ◌∙◌, arith, All, AllPairs, Any, sum_by, nat_tests, length-map, All-cons, All-nil, Entry, Calls, Placed, placed, calls_of, IsOwn, NotesAmong, IsMerged}
use Rattle.std.specs.Prelude.{◌≢◌}
use Rattle.std.proofs.lemmas.List.Sums.{sum_by-cons}

same-test : (a b : ℕ) → a ≡ b → nat_eq a b ≡ true
same-test a b h = grind (arith, nat_tests, h)

other-test : (a b : ℕ) → a ≢ b → nat_eq a b ≡ false
other-test a b h = grind (arith, nat_tests, h)

module _ {T : Type 0} where
  abbrev hits : ℕ → List (Calls T) → ℕ
  hits q [] = 0
  hits q (p ∷ ps) = cond (nat_eq q p.party) 1 0 + hits q ps

  abbrev count : ℕ → List (Entry T) → ℕ
  count party [] = 0
  count party (e ∷ es) = cond (nat_eq e.party party) 1 0 + count party es

  abbrev total : List (Calls T) → List (Entry T) → ℕ
  total [] es = 0
  total (p ∷ ps) es = count p.party es + total ps es

  no_hits : (q : ℕ) (ps : List (Calls T)) → ((k : ℕ) (d : Calls T) → k < length ps → q ≢ (get_or ps k d).party) → hits q ps ≡ 0
  no_hits q [] h = refl
  no_hits q (p ∷ ps) h =
      let rest : hits q ps ≡ 0 = no_hits q ps (λ k d l. h (suc k) d (omega arith)) in
      rw (other-test q p.party (h 0 p (omega arith)), rest) refl

  one_hit : (q : ℕ) (ps : List (Calls T)) → AllPairs (λ a b. a.party ≢ b.party) ps → (k : ℕ) (x : Calls T) → k < length ps → get_or ps k x ≡ x → x.party ≡ q → hits q ps ≡ 1
  one_hit q [] a k x l g e = absurd (omega (arith, l))
  one_hit q (p ∷ ps) a zero x l g e =
      let here : q ≡ p.party = sym (ap (λ (z : Calls T). z.party) g ∙ e) in
      let rest : hits q ps ≡ 0 = no_hits q ps (λ k d m. λ w. a 0 (suc k) d (omega arith) (omega arith) (sym here ∙ w)) in
      rw (same-test q p.party here, rest) refl
  one_hit q (p ∷ ps) a (suc k) x l g e =
      let there : q ≡ (get_or ps k x).party = sym (ap (λ (z : Calls T). z.party) g ∙ e) in
      let rest : hits q ps ≡ 1 = one_hit q ps (λ i j d m n. a (suc i) (suc j) d (omega arith) (omega arith)) k x (omega arith) g e in
      rw (other-test q p.party (λ w. a 0 (suc k) x (omega arith) (omega arith) (sym w ∙ there)), rest) refl

  total_nil : (ps : List (Calls T)) → total ps [] ≡ 0
  total_nil [] = refl
  total_nil (p ∷ ps) = rw (total_nil ps) refl

  total_cons : (ps : List (Calls T)) (e : Entry T) (es : List (Entry T)) → total ps (e ∷ es) ≡ hits e.party ps + total ps es
  total_cons [] e es = refl
  total_cons (p ∷ ps) e es = omega (arith, total_cons ps e es)

  total_is : (ps : List (Calls T)) (es : List (Entry T)) → AllPairs (λ a b. a.party ≢ b.party) ps → All (λ e. Any (λ p. p.party ≡ e.party) ps) es → total ps es ≡ length es
  total_is ps [] a h = total_nil ps
  total_is ps (e ∷ es) a h =
      let here = h 0 e (omega arith) in
      let one : hits e.party ps ≡ 1 = one_hit e.party ps a here.0 here.1 here.2 here.3 here.4 in
      let rest : total ps es ≡ length es = total_is ps es a (λ k d l. h (suc k) d (omega arith)) in
      omega (arith, total_cons ps e es, one, rest)

  length-cond : (b : Bool) (x : Placed T) (xs : List (Placed T)) → length (cond b (x ∷ xs) xs) ≡ cond b 1 0 + length xs
  length-cond true x xs = omega arith
  length-cond false x xs = omega arith

  calls_length : (party at : ℕ) (es : List (Entry T)) → length (calls_of party at es) ≡ count party es
  calls_length party at [] = refl
  calls_length party at (e ∷ es) =
      length-cond (nat_eq e.party party) (record { event = e.event; reply = e.reply; place = at }) (calls_of party (at + 1) es)
      ∙ ap (λ n. cond (nat_eq e.party party) 1 0 + n) (calls_length party (at + 1) es)

  notes_total : (ps : List (Calls T)) (es : List (Entry T)) → All (IsOwn es) ps → sum_by (λ p. length p.notes) ps ≡ total ps es
  notes_total [] es h = refl
  notes_total (p ∷ ps) es h =
      let own = h 0 p (omega arith) in
      let here : length p.notes ≡ count p.party es = sym (length-map p.notes placed) ∙ ap (λ (xs : List (Placed T)). length xs) own.0 ∙ calls_length p.party 0 es in
      let rest : sum_by (λ (v : Calls T). length v.notes) ps ≡ total ps es = notes_total ps es (λ k d l. h (suc k) d (omega arith)) in
      sum_by-cons (λ (v : Calls T). length v.notes) p ps ∙ omega (arith, here, rest)

  pub counted : (es : List (Entry T)) (ps : List (Calls T)) → IsMerged es ps → sum_by (λ p. length p.notes) ps ≡ length es
  counted es ps m = notes_total ps es m.own ∙ total_is ps es m.apart m.known

  one_hit_at_most : (b : Bool) (q : ℕ) (p : Calls T) (ps : List (Calls T)) → nat_eq q p.party ≡ b → (q ≡ p.party → hits q ps ≡ 0) → hits q ps ≤ 1 → cond b 1 0 + hits q ps ≤ 1
  one_hit_at_most true q p ps is none most = omega (arith, none (grind (arith, nat_tests, is)))
  one_hit_at_most false q p ps is none most = omega (arith, most)

  hits_most : (q : ℕ) (ps : List (Calls T)) → AllPairs (λ a b. a.party ≢ b.party) ps → hits q ps ≤ 1
  hits_most q [] a = omega arith
  hits_most q (p ∷ ps) a =
      let rest : hits q ps ≤ 1 = hits_most q ps (λ i j d m n. a (suc i) (suc j) d (omega arith) (omega arith)) in
      one_hit_at_most (nat_eq q p.party) q p ps refl (λ here. no_hits q ps (λ k d m. λ w. a 0 (suc k) d (omega arith) (omega arith) (sym here ∙ w))) rest

  total_most : (ps : List (Calls T)) (es : List (Entry T)) → AllPairs (λ a b. a.party ≢ b.party) ps → total ps es ≤ length es
  total_most ps [] a = omega (arith, total_nil ps)
  total_most ps (e ∷ es) a = omega (arith, total_cons ps e es, hits_most e.party ps a, total_most ps es a)

  any_there : (q : ℕ) (p : Calls T) (ps : List (Calls T)) → Any (λ x. x.party ≡ q) ps → Any (λ x. x.party ≡ q) (p ∷ ps)
  any_there q p ps h = (suc h.0, h.1, omega (arith, h.2), h.3, h.4)

  any_hit_by : (b : Bool) (q : ℕ) (p : Calls T) (ps : List (Calls T)) → nat_eq q p.party ≡ b → (hits q ps ≡ 1 → Any (λ x. x.party ≡ q) ps) → cond b 1 0 + hits q ps ≡ 1 → Any (λ x. x.party ≡ q) (p ∷ ps)
  any_hit_by true q p ps is rest one =
      let here : p.party ≡ q = grind (arith, nat_tests, is) in
      (0, p, omega arith, refl, here)
  any_hit_by false q p ps is rest one = any_there q p ps (rest (omega (arith, one)))

  any_hit : (q : ℕ) (ps : List (Calls T)) → hits q ps ≡ 1 → Any (λ p. p.party ≡ q) ps
  any_hit q [] h = absurd (omega (arith, h))
  any_hit q (p ∷ ps) h = any_hit_by (nat_eq q p.party) q p ps refl (any_hit q ps) h

  all_known : (ps : List (Calls T)) (es : List (Entry T)) → AllPairs (λ a b. a.party ≢ b.party) ps → total ps es ≡ length es → All (λ e. Any (λ p. p.party ≡ e.party) ps) es
  all_known ps [] a h = All-nil (λ (e : Entry T). Any (λ (p : Calls T). p.party ≡ e.party) ps)
  all_known ps (e ∷ es) a h =
      let parts = total_cons ps e es in
      let one : hits e.party ps ≤ 1 = hits_most e.party ps a in
      let most : total ps es ≤ length es = total_most ps es a in
      All-cons (λ (x : Entry T). Any (λ (p : Calls T). p.party ≡ x.party) ps) e es
      (any_hit e.party ps (omega (arith, parts, one, most, h)))
      (all_known ps es a (omega (arith, parts, one, most, h)))

  notes_most : (ps : List (Calls T)) (es : List (Entry T)) → All (NotesAmong es) ps → sum_by (λ p. length p.notes) ps ≤ total ps es
  notes_most [] es h = omega arith
  notes_most (p ∷ ps) es h =
      let head = sum_by-cons (λ (v : Calls T). length v.notes) p ps in
      let here : length p.notes ≤ count p.party es = omega (arith, (h 0 p (omega arith)).0, calls_length p.party 0 es) in
      let rest : sum_by (λ (v : Calls T). length v.notes) ps ≤ total ps es = notes_most ps es (λ k d l. h (suc k) d (omega arith)) in
      omega (arith, head, here, rest)

  all_own : (ps : List (Calls T)) (es : List (Entry T)) → All (NotesAmong es) ps → sum_by (λ p. length p.notes) ps ≡ total ps es → All (IsOwn es) ps
  all_own [] es h same = All-nil (IsOwn es)
  all_own (p ∷ ps) es h same =
      let head = sum_by-cons (λ (v : Calls T). length v.notes) p ps in
      let among = h 0 p (omega arith) in
      let calls = calls_length p.party 0 es in
      let here : length p.notes ≤ count p.party es = omega (arith, among.0, calls) in
      let tail : All (NotesAmong es) ps = λ k d l. h (suc k) d (omega arith) in
      let rest : sum_by (λ (v : Calls T). length v.notes) ps ≤ total ps es = notes_most ps es tail in
      All-cons (IsOwn es) p ps
      (among.1 (omega (arith, head, here, rest, calls, same)))
      (all_own ps es tail (omega (arith, head, here, rest, same)))

  pub merged : (es : List (Entry T)) (ps : List (Calls T)) → AllPairs (λ a b. a.party ≢ b.party) ps → sum_by (λ p. length p.notes) ps ≡ length es → All (NotesAmong es) ps → IsMerged es ps
  merged es ps a same among =
      let most : total ps es ≤ length es = total_most ps es a in
      let notes : sum_by (λ (v : Calls T). length v.notes) ps ≤ total ps es = notes_most ps es among in
      record {
        apart = a;
        known = all_known ps es a (omega (arith, most, notes, same));
        own = all_own ps es among (omega (arith, most, notes, same));
      }
