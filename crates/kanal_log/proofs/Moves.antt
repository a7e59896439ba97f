-- Each step of a seat keeps the rule.
use Rattle.kanal_log.proofs.Common.{◌≡◌, ◌≢◌, ◌⊎◌, ◌+◌, ◌≤◌, ℕ, zero, suc, List, [], ◌∷◌, ◌++◌, length, set, true, false, refl, sym, ap, ◌∙◌, subst, ⊎_elim, inl, inr, arith, some, some-ne-none, some-injective, IsPrefix, get_elem?, State, Me, keeps, Allows, Splits, Joins, at_set, at_snoc, Share, LogView, whole, nothing, half, both, IsWhole, worth, IsAmong, AreDisjoint, Addition, MayAdd, writer_view_with, reader_view, beside, alone, with_share, all_own, IsHalvedUpTo, AreShared, ViewFits, HaveOneOwner, ViewsAgree, Extended, Compared, Learned, Checked, IsUnownedBehind}
use Rattle.kanal_log.proofs.Readers.{prefix_self, prefix_both, prefix_length}
use Rattle.kanal_log.proofs.Places.{among-cases, among-left, among-right, distinct-append, distinct-left, distinct-right, distinct-apart, unowned-shorter}
use Rattle.kanal_log.proofs.Owners.{owners-set, owners-split, owners-join}
use Rattle.kanal_log.proofs.Shares.{worth-nothing, worth-scaled, worth-half, worth-both, worth-whole, worthless, both-none}
use Rattle.kanal_log.proofs.Worths.{worth-one, halved-at, shared-scaled, shared-set, shared-split, shared-join}
use Rattle.kanal_log.proofs.Owned.{owned-set, owned-split, owned-join}
use Rattle.kanal_log.proofs.Fitting.{off, fits-set, reader_view-fits}
use Rattle.kanal_log.proofs.Wholes.{all-owned, only-unowned}
use Rattle.kanal_log.proofs.Grown.{grown, grown-keeps}

module _ {E : Type 0} (unowned : E → Type 0) where
  pub begins : ViewsAgree unowned (writer_view_with [] whole ∷ [])
  begins =
      record {
        seat = 0;
        log = [];
        scale = 0;
        fits = one;
        owners = single;
        owned = λ k lt. absurd (omega arith);
        shares = record { halved = ((omega arith, omega arith), tt); most = omega arith };
      }
    where
      first : ViewFits {E = E} 0 [] 0 (writer_view_with [] whole)
      first =
          record {
            keeps = λ _. (refl, refl);
            seen = ([], refl);
            shown = ([], refl);
            below = λ k a. absurd a;
            others_below = λ k a. absurd a;
            distinct = tt;
            idle = λ _. refl;
            others_idle = λ _. refl;
          }

      one : (by : ℕ) (v : LogView E) → get_elem? (writer_view_with [] whole ∷ []) by ≡ some v → ViewFits 0 [] by v
      one zero v e = subst (ViewFits 0 [] 0) (some-injective _ _ e) first
      one (suc by) v e = absurd (some-ne-none v (sym e))

      single : HaveOneOwner {E = E} (writer_view_with [] whole ∷ [])
      single zero zero v w a b k x y = refl
      single zero (suc j) v w a b k x y = absurd (some-ne-none w (sym b))
      single (suc i) j v w a b k x y = absurd (some-ne-none v (sym a))

  module _ {S : Type 0} where
    -- the rule
    abbrev rule : State S (LogView E) → Type 0
    rule s = ViewsAgree unowned s.views

    module _ (s : State S (LogView E)) (h : rule s) (id : ℕ) (v : LogView E) (at : get_elem? s.views id ≡ some v) where
      mine : ViewFits h.seat h.log id v
      mine = h.fits id v at

      small : IsHalvedUpTo h.scale v
      small = halved-at h.scale s.views id v h.shares.halved at

      -- a view that fits takes the place of one, with the same places
      changed : (n : ℕ) (w : LogView E) → ViewFits h.seat h.log id w → ((k : ℕ) → IsAmong k (all_own w) → IsAmong k (all_own v)) → ((k : ℕ) → IsAmong k (all_own v) → IsAmong k (all_own w)) → AreShared n (set s.views id w) → ViewsAgree unowned (set s.views id w)
      changed n w fits sub sup shares =
          record {
            seat = h.seat;
            log = h.log;
            scale = n;
            fits = fits-set h.seat h.log s.views id w (λ j u apart e. h.fits j u e) fits;
            owners = owners-set s.views h.owners id v at w (λ k a. inl (sub k a));
            owned = λ k lt. ⊎_elim (λ o. inl (owned-set s.views id v at w k (sup k) o)) (λ q. inr q) (h.owned k lt);
            shares = shares;
          }

      -- nothing of the view changes
      stays : ViewsAgree unowned (set s.views id v)
      stays = changed h.scale v mine (λ k a. a) (λ k a. a) (shared-set h.scale s.views id v v h.shares at small (omega arith))

      -- a view is cut in two
      cut : (n : ℕ) (left right : LogView E) → ViewFits h.seat h.log id left → ((by : ℕ) → ViewFits h.seat h.log by right) → ((k : ℕ) → IsAmong k (all_own left) → IsAmong k (all_own v)) → ((k : ℕ) → IsAmong k (all_own right) → IsAmong k (all_own v)) → AreDisjoint (all_own left) (all_own right) → ((k : ℕ) → IsAmong k (all_own v) → IsAmong k (all_own left) ⊎ IsAmong k (all_own right)) → AreShared n (set s.views id left ++ right ∷ []) → ViewsAgree unowned (set s.views id left ++ right ∷ [])
      cut n left right l r lefts rights apart sup shares =
          record {
            seat = h.seat;
            log = h.log;
            scale = n;
            fits = λ j u e. ⊎_elim
                (λ (was : get_elem? (set s.views id left) j ≡ some u). fits-set h.seat h.log s.views id left (λ i y _ e'. h.fits i y e') l j u was)
                (λ (same : right ≡ u). subst (ViewFits h.seat h.log j) same (r j))
                (at_snoc (set s.views id left) right u j e);
            owners = owners-split s.views h.owners id v at left right lefts rights apart;
            owned = λ k lt. ⊎_elim (λ o. inl (owned-split s.views id v at left right k (sup k) o)) (λ q. inr q) (h.owned k lt);
            shares = shares;
          }

    pub reads : (id : ℕ) (v : LogView E) → Splits rule id v v (reader_view v.log [] nothing)
    reads id v s h at =
        let m = mine s h id v at in
        let none = worth-nothing h.scale in
        cut s h id v at h.scale v (reader_view v.log [] nothing) m (λ by. reader_view-fits h.seat h.log by v.log [] nothing m.seen (λ k a. absurd a) tt (λ _. refl)) (λ k a. a) (λ k a. absurd a) (λ k a b. b) (λ k a. inl a)
        (shared-split h.scale s.views id v v (reader_view v.log [] nothing) h.shares at (small s h id v at) (omega arith, omega arith) (omega arith))

    -- the share of a view is cut in two, and its places stay
    shared : (id : ℕ) (v : LogView E) (left right : Share) → (left.count ≡ 0 → v.share.count ≡ 0 ⊎ (v.own ≡ [])) → ((n : ℕ) → v.share.halvings ≤ n → (left.halvings ≤ suc n) × (right.halvings ≤ suc n) × (worth (suc n) left + worth (suc n) right ≤ worth (suc n) v.share)) → Splits rule id v (with_share v left) (reader_view v.log [] right)
    shared id v left right idle fair s h at =
        let m = mine s h id v at in
        let n = h.scale in
        let up = shared-scaled (suc n) 1 n s.views (omega arith) h.shares in
        let was = small s h id v at in
        let others : v.others_share.halvings ≤ n = was.0 in
        let is = fair n was.1 in
        let none = worth-nothing (suc n) in
        cut s h id v at (suc n) (with_share v left) (reader_view v.log [] right)
        (record {
          keeps = m.keeps;
          seen = m.seen;
          shown = m.shown;
          below = m.below;
          others_below = m.others_below;
          distinct = m.distinct;
          idle = λ e. ⊎_elim (λ a. m.idle a) (λ a. a) (idle e);
          others_idle = m.others_idle;
        })
        (λ by. reader_view-fits h.seat h.log by v.log [] right m.seen (λ k a. absurd a) tt (λ _. refl)) (λ k a. a) (λ k a. absurd a) (λ k a b. b) (λ k a. inl a)
        (shared-split (suc n) s.views id v (with_share v left) (reader_view v.log [] right) up at (omega arith, is.0) (omega arith, is.1) (let le = is.2 in omega arith))

    pub founds : (id : ℕ) (v : LogView E) → v.own ≡ [] → Splits rule id v (with_share v nothing) (reader_view v.log [] v.share)
    founds id v none = shared id v nothing v.share (λ _. inr none) (λ n le. let none = worth-nothing (suc n) in (omega arith, omega arith, omega arith))

    pub halves : (id : ℕ) (v : LogView E) → Splits rule id v (with_share v (half v.share)) (reader_view v.log [] (half v.share))
    halves id v = shared id v (half v.share) (half v.share) (λ e. inl e)
        (λ n le.
        let same = worth-half n v.share le in
        let twice = worth-scaled (suc n) 1 n v.share le (omega arith) in (omega arith, omega arith, omega arith))

    pub goes : (id : ℕ) (v : LogView E) → v.keeps ≡ false → Splits rule id v (reader_view [] [] nothing) v
    goes id v reads-only s h at =
        let m = mine s h id v at in
        let none = worth-nothing h.scale in
        cut s h id v at h.scale (reader_view [] [] nothing) v (reader_view-fits h.seat h.log id [] [] nothing (h.log, refl) (λ k a. absurd a) tt (λ _. refl))
        (λ by.
        record {
          keeps = λ k. absurd (off (sym reads-only ∙ k));
          seen = m.seen;
          shown = m.shown;
          below = m.below;
          others_below = m.others_below;
          distinct = m.distinct;
          idle = m.idle;
          others_idle = m.others_idle;
        })
        (λ k a. absurd a) (λ k a. a) (λ k a b. a) (λ k a. inr a)
        (shared-split h.scale s.views id v (reader_view [] [] nothing) v h.shares at (omega arith, omega arith) (small s h id v at) (omega arith))

    pub parts : (id : ℕ) (v : LogView E) → Splits rule id v (alone v) (reader_view v.other v.others_own v.others_share)
    parts id v s h at =
        let m = mine s h id v at in
        let was = small s h id v at in
        let none = worth-nothing h.scale in
        cut s h id v at h.scale (alone v) (reader_view v.other v.others_own v.others_share)
        (record {
          keeps = m.keeps;
          seen = m.seen;
          shown = (h.log, refl);
          below = m.below;
          others_below = λ k a. absurd a;
          distinct = distinct-right v.others_own v.own m.distinct;
          idle = m.idle;
          others_idle = λ _. refl;
        })
        (λ by. reader_view-fits h.seat h.log by v.other v.others_own v.others_share m.shown m.others_below (distinct-left v.others_own v.own m.distinct) m.others_idle)
        (λ k a. among-right k v.others_own v.own a)
        (λ k a. among-left k v.others_own v.own a)
        (λ k a b. distinct-apart v.others_own v.own m.distinct k b a)
        (λ k a. ⊎_elim (λ b. inr b) (λ b. inl b) (among-cases k v.others_own v.own a))
        (shared-split h.scale s.views id v (alone v) (reader_view v.other v.others_own v.others_share) h.shares at (omega arith, was.1) (omega arith, was.0) (omega arith))

    pub meets : (id : ℕ) (v : LogView E) (other : ℕ) (w : LogView E) → v.others_own ≡ [] → w.others_own ≡ [] → Joins rule id v other w (beside v w) (reader_view [] [] nothing)
    meets id v other w none none' s h at apart there =
        let m = mine s h id v at in
        let was : get_elem? s.views other ≡ some w =
        ⊎_elim (λ (t : (other ≡ id) × (beside v w ≡ w)). absurd (apart t.0)) (λ (t : (other ≢ id) × (get_elem? s.views other ≡ some w)). t.1) (at_set s.views id other (beside v w) w there) in
        let n = h.fits other w was in
        let both : ViewFits h.seat h.log id (beside v w) =
        record {
          keeps = m.keeps;
          seen = m.seen;
          shown = n.seen;
          below = m.below;
          others_below = n.below;
          distinct = distinct-append w.own v.own (distinct-right w.others_own w.own n.distinct) (distinct-right v.others_own v.own m.distinct)
              (λ k a b. apart (h.owners other id w v was at k (among-right k w.others_own w.own a) (among-right k v.others_own v.own b)));
          idle = m.idle;
          others_idle = n.idle;
        } in
        let zero-worth = worth-nothing h.scale in
        record {
          seat = h.seat;
          log = h.log;
          scale = h.scale;
          fits = fits-set h.seat h.log (set s.views id (beside v w)) other (reader_view [] [] nothing)
              (λ j x _ e. fits-set h.seat h.log s.views id (beside v w) (λ i y _ e'. h.fits i y e') both j x e)
              (reader_view-fits h.seat h.log other [] [] nothing (h.log, refl) (λ k a. absurd a) tt (λ _. refl));
          owners = owners-join s.views h.owners id v at other w was;
          owned = λ k lt. ⊎_elim (λ o. inl (owned-join s.views id v at other w apart there none none' k o)) (λ q. inr q) (h.owned k lt);
          shares = shared-join h.scale s.views id other v w (beside v w) (reader_view [] [] nothing) h.shares at there
              ((small s h other w was).1, (small s h id v at).1) (omega arith, omega arith) (omega arith);
        }

  module _ {S : Type 0} (slots id i : ℕ) (me : Me S (LogView E)) where
    pub extends : (more : Addition E) → me.0.keeps ≡ true → MayAdd unowned me.0.others_share more → Allows rule slots id me i (λ n. n) (λ n w. Extended unowned more me w)
    extends more keeping may s h len at bound =
        let v = me.0 in
        let m = mine s h id v at in
        let is = m.keeps keeping in (
          grown unowned v more,
          keeps,
          tt,
          grown-keeps unowned v more s.views h id at is.0 is.1 may,
          record {
            view = refl;
            seen = subst (IsPrefix v.other) (sym is.1) m.shown;
            only = λ all. subst (λ l. IsUnownedBehind unowned v.other l) (sym is.1) (only-unowned unowned s.views h id v at all);
          },
        )

    pub compares : Allows rule slots id me i (λ n. n) (λ n w. Compared me w)
    compares s h len at bound =
        let v = me.0 in
        let m = mine s h id v at in (
          v,
          keeps,
          tt,
          stays s h id v at,
          record {
            view = refl;
            one = prefix_both v.log v.other h.log m.seen m.shown;
            apart = λ k a b. distinct-apart v.others_own v.own m.distinct k b a;
            each = (distinct-right v.others_own v.own m.distinct, distinct-left v.others_own v.own m.distinct);
          },
        )

    pub checks : IsWhole me.0.share → Allows rule slots id me i (λ n. n) (λ n w. Checked unowned me w)
    checks is s h len at bound =
        let v = me.0 in
        let m = mine s h id v at in
        let was = small s h id v at in
        let all = worth-whole h.scale v.share is was.1 in
        let one = worth-one h.scale s.views id v at in
        let most = h.shares.most in
        let none : v.others_own ≡ [] = m.others_idle (worthless h.scale v.others_share (omega arith)) in (
          v,
          keeps,
          tt,
          stays s h id v at,
          record {
            view = refl;
            each = record {
              all = λ k lt. ⊎_elim
                  (λ a. ⊎_elim (λ b. absurd (subst (λ (xs : List ℕ). IsAmong k xs) none b)) (λ b. inl b) (among-cases k v.others_own v.own a))
                  (λ q. inr (unowned-shorter unowned v.log h.log m.seen k lt q))
                  (all-owned unowned s.views h id v at (omega arith) k (let p = prefix_length v.log h.log m.seen in omega arith));
              below = m.below;
              distinct = distinct-right v.others_own v.own m.distinct;
            };
          },
        )

    pub learns : Allows rule slots id me i (λ n. n) (λ n w. Learned me w)
    learns s h len at bound =
        let v = me.0 in
        let m = mine s h id v at in
        let sum = both v.others_share v.share in
        let top = v.others_share.halvings + v.share.halvings + h.scale in
        let up = shared-scaled top (v.others_share.halvings + v.share.halvings) h.scale s.views refl h.shares in
        let together = worth-both top v.others_share v.share (omega arith) in
        let none = worth-nothing top in
        let idle : sum.count ≡ 0 → all_own v ≡ [] = λ e.
        let a : v.own ≡ [] = m.idle (both-none v.others_share v.share e).1 in let b : v.others_own ≡ [] = m.others_idle (both-none v.others_share v.share e).0 in (ap (λ xs. xs ++ v.own) b ∙ a) in
        let to : (l : List E) → IsPrefix l h.log → length v.log ≤ length l → length v.other ≤ length l → ViewsAgree unowned (set s.views id (reader_view l (all_own v) sum)) =
        λ l p this that. changed s h id v at top (reader_view l (all_own v) sum)
        (reader_view-fits h.seat h.log id l (all_own v) sum p
        (λ k a. ⊎_elim (λ b. let q = m.others_below k b in omega arith) (λ b. let q = m.below k b in omega arith) (among-cases k v.others_own v.own a))
        m.distinct idle) (λ k a. a) (λ k a. a)
        (shared-set top s.views id v (reader_view l (all_own v) sum) up at (omega arith, omega arith) (omega arith)) in
        ⊎_elim
        (λ (p : IsPrefix v.log v.other). (reader_view v.other (all_own v) sum, keeps, tt, to v.other m.shown (prefix_length v.log v.other p) (omega arith), record { view = refl; this = p; that = prefix_self v.other; one = inr refl }))
        (λ (p : IsPrefix v.other v.log). (reader_view v.log (all_own v) sum, keeps, tt, to v.log m.seen (omega arith) (prefix_length v.other v.log p), record { view = refl; this = prefix_self v.log; that = p; one = inl refl }))
        (prefix_both v.log v.other h.log m.seen m.shown)
