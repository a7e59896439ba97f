-- What three passes tell together: two that put, and one that got.
use Rattle.kanal_exchange.proofs.Common.{◌≡◌, ◌+◌, ℕ, suc, Bool, true, false, cond, List, [], ◌∷◌, ◌++◌, length, map, filter, take, sum_by, Option, Some, refl, sym, ap, ◌∙◌, subst, ⊎_elim, inl, inr, arith, IsPrefix, take-length, cases_Bool, Known, IsAmong, AreDisjoint, OwnsAllBut, among-cases, among-left, among-right, PairedHistory, Demand, sent, asked, cleared_by, kept, receipts, receipts_from, send_stays, demand_stays, without_last, ArePaired, Paired, Call, MovesNoMessage, IsLegal, history_of, ExchangesNothing, WaitsAsSettled, got_longer, got_none, got_received, put_kept, put_longer, put_none, legal-paired, waits_as_settled, is_among, read_at, sent_in, asked_in, cleared_in, HasExchanged}
use Rattle.kanal_exchange.specs.Merges.{IsMerge, Neither, First, Second}
use Rattle.kanal_exchange.proofs.Places.{AreCovered, at-false, at-true, covered-more, left-nil, read_all, read-longer, right-nil}
use Rattle.kanal_exchange.proofs.Telling.{all-taken, along-calls, cleared-calls, cleared-none, owned_covered, paired-take}

module _ {X : Type 0} where
  -- the first of the two begins with more
  pub more-first : (us : List X) {zs xs ys : List X} → IsMerge zs xs ys → IsMerge (us ++ zs) (us ++ xs) ys
  more-first [] m = m
  more-first (u ∷ us) m = First (more-first us m)

  -- and the second
  pub more-second : (us : List X) {zs xs ys : List X} → IsMerge zs xs ys → IsMerge (us ++ zs) xs (us ++ ys)
  more-second [] m = m
  more-second (u ∷ us) m = Second (more-second us m)

  pub merge-length : {zs xs ys : List X} → IsMerge zs xs ys → length zs ≡ length xs + length ys
  merge-length Neither = refl
  merge-length (First m) = let r = merge-length m in omega arith
  merge-length (Second m) = let r = merge-length m in omega arith

  pub merge-filter : (p : X → Bool) {zs xs ys : List X} → IsMerge zs xs ys → IsMerge (filter p zs) (filter p xs) (filter p ys)
  merge-filter p Neither = Neither
  merge-filter p (First {x} m) =
      let r = merge-filter p m in
      elim (cases_Bool (p x)) [
        | inl t ↦ rw t (First r)
        | inr t ↦ rw t r
      ]
  merge-filter p (Second {y} m) =
      let r = merge-filter p m in
      elim (cases_Bool (p y)) [
        | inl t ↦ rw t (Second r)
        | inr t ↦ rw t r
      ]

-- with nothing in the second, the first is all
pub merge-nothing : {X : Type 0} {zs xs ys : List X} → IsMerge zs xs ys → ys ≡ [] → zs ≡ xs
merge-nothing Neither e = refl
merge-nothing (First {x} m) e = ap (λ us. x ∷ us) (merge-nothing m e)
merge-nothing (Second m) e = absurd (cc)

pub merge-map : {X Y : Type 0} (f : X → Y) {zs xs ys : List X} → IsMerge zs xs ys → IsMerge (map f zs) (map f xs) (map f ys)
merge-map f Neither = Neither
merge-map f (First m) = First (merge-map f m)
merge-map f (Second m) = Second (merge-map f m)

module _ {E X : Type 0} (f : E → List X) where
  -- what is read of all is a merge of what is read at the places of the two, where the third reads nothing and all else is silent
  pub read-merged : (calm : E → Type 0) → ((e : E) → calm e → f e ≡ []) → (one two other : List ℕ) (n : ℕ) (xs : List E) → AreCovered calm (other ++ (two ++ one)) n xs → AreDisjoint one two → AreDisjoint one other → AreDisjoint two other → read_at f other n xs ≡ []
      → IsMerge (read_all f xs) (read_at f one n xs) (read_at f two n xs)
  read-merged calm unowned one two other n [] all ab ac bc none = Neither
  read-merged calm unowned one two other n (x ∷ xs) all ab ac bc none =
      let front : cond (is_among n other) (f x) [] ≡ [] = left-nil (cond (is_among n other) (f x) []) (read_at f other (suc n) xs) none in
      let back : read_at f other (suc n) xs ≡ [] = right-nil (cond (is_among n other) (f x) []) (read_at f other (suc n) xs) none in
      let r = read-merged calm unowned one two other (suc n) xs all.1 ab ac bc back in
      ⊎_elim
      (λ (a : IsAmong n (other ++ (two ++ one))).
      ⊎_elim
      (λ (c : IsAmong n other).
      let t = at-true n other c in
      let u = at-false n one (λ m. ac n m c) in
      let v = at-false n two (λ m. bc n m c) in
      let e : f x ≡ [] = subst (λ (b : Bool). cond b (f x) [] ≡ []) t front in
      rw (u, v, e) r)
      (λ (d : IsAmong n (two ++ one)).
      ⊎_elim
      (λ (b : IsAmong n two).
      let t = at-true n two b in
      let u = at-false n one (λ m. ab n m b) in
      rw (t, u) (more-second (f x) r))
      (λ (a : IsAmong n one).
      let t = at-true n one a in
      let u = at-false n two (λ m. ab n a m) in
      rw (t, u) (more-first (f x) r))
      (among-cases n two one d))
      (among-cases n other (two ++ one) a))
      (λ (s : calm x).
      let e : f x ≡ [] = unowned x s in
      subst (λ (us : List X). IsMerge (us ++ read_all f xs) (cond (is_among n one) us [] ++ read_at f one (suc n) xs) (cond (is_among n two) us [] ++ read_at f two (suc n) xs)) (sym e)
      (subst (λ (us : List X). IsMerge (read_all f xs) (us ++ read_at f one (suc n) xs) (cond (is_among n two) [] [] ++ read_at f two (suc n) xs)) (sym (nil-either (is_among n one)))
      (subst (λ (us : List X). IsMerge (read_all f xs) (read_at f one (suc n) xs) (us ++ read_at f two (suc n) xs)) (sym (nil-either (is_among n two))) r)))
      all.0
    where
      nil-either : (b : Bool) → ◌≡◌ {A = List X} (cond b [] []) []
      nil-either true = refl
      nil-either false = refl

-- three lists of places in the other order
turned : (k : ℕ) (xs ys zs : List ℕ) → IsAmong k (xs ++ (ys ++ zs)) → IsAmong k (zs ++ (ys ++ xs))
turned k xs ys zs a =
    ⊎_elim
    (λ (x : IsAmong k xs). among-right k zs (ys ++ xs) (among-right k ys xs x))
    (λ (b : IsAmong k (ys ++ zs)).
    ⊎_elim (λ (y : IsAmong k ys). among-right k zs (ys ++ xs) (among-left k ys xs y)) (λ (z : IsAmong k zs). among-left k zs (ys ++ xs) z) (among-cases k ys zs b))
    (among-cases k xs (ys ++ zs) a)

module _ {T : Type 0} where
  -- three passes beside whom nobody put or got: what the third got, if that is as much as the two put, is a merge of what they put
  pub merged : (capacity : Option ℕ) (one two other : Known (Call T)) (log : List (Call T)) (first second got : List T) → HasExchanged first [] one → HasExchanged second [] two → HasExchanged [] got other → IsPrefix one.log log → IsPrefix two.log log → IsPrefix other.log log
      → AreDisjoint one.own two.own → AreDisjoint one.own other.own → AreDisjoint two.own other.own → IsLegal capacity log → OwnsAllBut (λ (c : Call T). MovesNoMessage c.event) log (other.own ++ (two.own ++ one.own)) → length got ≡ length first + length second → IsMerge got first second
  merged capacity one two other log first second got s1 s2 r seen1 seen2 heard ab ac bc legal owns count =
      let all = owned_covered capacity log (other.own ++ (two.own ++ one.own)) legal owns in
      let waits : WaitsAsSettled log = waits_as_settled capacity log legal in
      let paired : Paired (history_of log) = legal-paired capacity log legal in
      let h : PairedHistory T = history_of log in
      let ss1 : List (T × Option ℕ) = read_at sent_in one.own 0 one.log in
      let ss2 : List (T × Option ℕ) = read_at sent_in two.own 0 two.log in
      let ds : List (Demand T) = read_at asked_in other.own 0 other.log in
      let ba : AreDisjoint two.own one.own = λ k b a. ab k a b in
      let ca : AreDisjoint other.own one.own = λ k c a. ac k a c in
      let cb : AreDisjoint other.own two.own = λ k c b. bc k b c in
      let turn : AreCovered ExchangesNothing (one.own ++ (two.own ++ other.own)) 0 log = covered-more ExchangesNothing (other.own ++ (two.own ++ one.own)) (one.own ++ (two.own ++ other.own)) 0 log (λ k a. turned k other.own two.own one.own a) all in
      let sends = read-merged sent_in ExchangesNothing (λ c q. q.sends) one.own two.own other.own 0 log all ab ac bc (read-longer sent_in other.own other.log log r.below heard ∙ put_none other.log (read_at sent_in other.own 0 other.log) r.puts) in
      let asks = merge-nothing (read-merged asked_in ExchangesNothing (λ c q. q.asks) other.own two.own one.own 0 log turn cb ca ba (read-longer asked_in one.own one.log log s1.below seen1 ∙ got_none one.log (read_at asked_in one.own 0 one.log) s1.gets)) (read-longer asked_in two.own two.log log s2.below seen2 ∙ got_none two.log (read_at asked_in two.own 0 two.log) s2.gets) in
      let clears = merge-nothing (read-merged cleared_in ExchangesNothing (λ c q. cleared-none c q.clears) one.own two.own other.own 0 log all ab ac bc (read-longer cleared_in other.own other.log log r.below heard ∙ r.clears)) (read-longer cleared_in two.own two.log log s2.below seen2 ∙ s2.clears) in
      let none : length (read_all cleared_in log) ≡ 0 = ap length (clears ∙ (read-longer cleared_in one.own one.log log s1.below seen1 ∙ s1.clears)) in
      let counted = cleared-calls [] [] [] [] log in
      let zero : sum_by cleared_by h.replies ≡ 0 = counted ∙ omega (arith, none) in
      let entered : List T = map (λ (x : T × Option ℕ). x.0) (filter (send_stays h) (read_all sent_in log)) in
      let is_kept : kept h ≡ entered =
      ap (λ xs. without_last (sum_by cleared_by h.replies) (map (λ (x : T × Option ℕ). x.0) (filter (send_stays h) xs))) (along-calls sent [] [] [] [] log refl)
      ∙ all-taken entered (sum_by cleared_by h.replies) zero in
      let is_got : receipts h ≡ map Some got =
      ap (λ xs. receipts_from h.settled (filter (demand_stays h) xs) h.drained) (along-calls asked [] [] [] [] log refl ∙ (asks ∙ read-longer asked_in other.own other.log log r.below heard)) ∙ got_received log waits ds got (got_longer other.log log heard ds got r.gets) h.drained in
      let kept1 : map (λ (x : T × Option ℕ). x.0) (filter (send_stays h) (read_at sent_in one.own 0 log)) ≡ first =
      ap (λ xs. map (λ (x : T × Option ℕ). x.0) (filter (send_stays h) xs)) (read-longer sent_in one.own one.log log s1.below seen1) ∙ put_kept log waits ss1 first (put_longer one.log log seen1 ss1 first s1.puts) in
      let kept2 : map (λ (x : T × Option ℕ). x.0) (filter (send_stays h) (read_at sent_in two.own 0 log)) ≡ second =
      ap (λ xs. map (λ (x : T × Option ℕ). x.0) (filter (send_stays h) xs)) (read-longer sent_in two.own two.log log s2.below seen2) ∙ put_kept log waits ss2 second (put_longer two.log log seen2 ss2 second s2.puts) in
      let both : IsMerge entered first second =
      subst (λ ys. IsMerge entered first ys) kept2 (subst (λ xs. IsMerge entered xs (map (λ (x : T × Option ℕ). x.0) (filter (send_stays h) (read_at sent_in two.own 0 log)))) kept1 (merge-map (λ (x : T × Option ℕ). x.0) (merge-filter (send_stays h) sends))) in
      let some : got ≡ take (length got) entered = paired-take got entered (subst (λ xs. ArePaired (map Some got) xs) is_kept (subst (λ xs. ArePaired xs (kept h)) is_got paired)) in
      let size : length got ≡ length entered = count ∙ sym (merge-length both) in
      subst (λ xs. IsMerge xs first second) (sym (some ∙ (ap (λ n. take n entered) size ∙ take-length entered))) both
