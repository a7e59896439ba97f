-- The writer's view where it adds to the history.
use Rattle.kanal_log.proofs.Common.{◌≡◌, ◌≢◌, ◌⊎◌, ◌<◌, ℕ, List, ◌++◌, length, set, true, HoldsAt, refl, sym, ◌∙◌, subst, ⊎_elim, inl, inr, arith, length-append, some, get_elem?, LogView, IsAmong, AreDistinct, AreBelow, Addition, entries, place_of, MayAdd, all_own, IsOwned, ViewFits, ViewsAgree}
use Rattle.kanal_log.proofs.Readers.{prefix_self, prefix_more}
use Rattle.kanal_log.proofs.Places.{among-cases, among-left, among-right, distinct-append, distinct-left, distinct-right, distinct-apart, among-place, place-distinct, place-covers, none-more, unowned-longer}
use Rattle.kanal_log.proofs.Owners.{owners-set}
use Rattle.kanal_log.proofs.Worths.{halved-at, shared-set}
use Rattle.kanal_log.proofs.Owned.{owned-set, owned-new}
use Rattle.kanal_log.proofs.Fitting.{fits-set, all-below}

module _ {E : Type 0} (unowned : E → Type 0) (v : LogView E) (more : Addition E) where
  -- the writer's view with what it adds
  abbrev pub grown : LogView E
  grown = record { keeps = true; log = v.log ++ entries more; own = v.own; share = v.share; other = v.log ++ entries more; others_own = place_of v.log more ++ v.others_own; others_share = v.others_share }

  grown-cases : (k : ℕ) → IsAmong k (all_own grown) → IsAmong k (place_of v.log more) ⊎ IsAmong k (all_own v)
  grown-cases k a =
      ⊎_elim
      (λ b. ⊎_elim (λ c. inl c) (λ c. inr (among-left k v.others_own v.own c)) (among-cases k (place_of v.log more) v.others_own b))
      (λ b. inr (among-right k v.others_own v.own b))
      (among-cases k (place_of v.log more ++ v.others_own) v.own a)

  grown-has : (k : ℕ) → IsAmong k (all_own v) → IsAmong k (all_own grown)
  grown-has k a =
      ⊎_elim
      (λ b. among-left k (place_of v.log more ++ v.others_own) v.own (among-right k (place_of v.log more) v.others_own b))
      (λ b. among-right k (place_of v.log more ++ v.others_own) v.own b)
      (among-cases k v.others_own v.own a)

  -- no place that the view has is the one that is added
  grown-apart : AreBelow (length v.log) (all_own v) → (k : ℕ) → IsAmong k (place_of v.log more) → IsAmong k (all_own v) → ⊥
  grown-apart inside k a b = let p = among-place v.log more k a in let q = inside k b in omega (arith, p.0, q)

  grown-distinct : AreBelow (length v.log) (all_own v) → AreDistinct (all_own v) → AreDistinct (all_own grown)
  grown-distinct inside distinct =
      let place = place_of v.log more in
      distinct-append (place ++ v.others_own) v.own
      (distinct-append place v.others_own (place-distinct v.log more) (distinct-left v.others_own v.own distinct) (λ k a b. grown-apart inside k a (among-left k v.others_own v.own b)))
      (distinct-right v.others_own v.own distinct)
      (λ k a b. ⊎_elim (λ c. grown-apart inside k c (among-right k v.others_own v.own b)) (λ c. distinct-apart v.others_own v.own distinct k c b) (among-cases k place v.others_own a))

  grown-fits : (seat by : ℕ) → by ≡ seat → ViewFits seat v.log by v → MayAdd unowned v.others_share more → ViewFits seat (v.log ++ entries more) by grown
  grown-fits seat by is m may =
      let inside = all-below seat v.log by v m in
      record {
        keeps = λ _. (is, refl);
        seen = prefix_self (v.log ++ entries more);
        shown = prefix_self (v.log ++ entries more);
        below = λ k a. let q = m.below k a in omega (arith, q, length-append v.log (entries more));
        others_below = λ k a. ⊎_elim
            (λ b. let p = among-place v.log more k b in omega (arith, p.0, p.1, length-append v.log (entries more)))
            (λ b. let q = inside k (among-left k v.others_own v.own b) in omega (arith, q, length-append v.log (entries more)))
            (among-cases k (place_of v.log more) v.others_own a);
        distinct = grown-distinct inside m.distinct;
        idle = m.idle;
        others_idle = λ e. none-more unowned v.others_share v.log more v.others_own may e (m.others_idle e);
      }

  other-fits : (seat by : ℕ) (u : LogView E) → by ≢ seat → ViewFits seat v.log by u → ViewFits seat (v.log ++ entries more) by u
  other-fits seat by u apart f =
      record {
        keeps = λ k. absurd (apart (f.keeps k).0);
        seen = prefix_more u.log v.log (entries more) f.seen;
        shown = prefix_more u.other v.log (entries more) f.shown;
        below = f.below;
        others_below = f.others_below;
        distinct = f.distinct;
        idle = f.idle;
        others_idle = f.others_idle;
      }

  -- the rule holds where the history is what the writer has seen
  pub grown-keeps : (views : List (LogView E)) (h : ViewsAgree unowned views) (id : ℕ) → get_elem? views id ≡ some v → id ≡ h.seat → v.log ≡ h.log → MayAdd unowned v.others_share more → ViewsAgree unowned (set views id grown)
  grown-keeps views h id at is same may =
      let log = v.log ++ entries more in
      let fits : (j : ℕ) (u : LogView E) → get_elem? views j ≡ some u → ViewFits h.seat v.log j u = λ j u e. subst (λ l. ViewFits h.seat l j u) (sym same) (h.fits j u e) in
      record {
        seat = h.seat;
        log = log;
        scale = h.scale;
        fits = fits-set h.seat log views id grown (λ j u apart e. other-fits h.seat j u (λ x. apart (x ∙ sym is)) (fits j u e)) (grown-fits h.seat id is (fits id v at) may);
        owners = owners-set views h.owners id v at grown
            (λ k a. ⊎_elim
            (λ b. inr (λ j u e c. let p = among-place v.log more k b in let q = all-below h.seat v.log j u (fits j u e) k c in omega (arith, p.0, q)))
            (λ b. inl b)
            (grown-cases k a));
        owned = λ k lt. ⊎_elim
            (λ (b : k < length v.log).
            ⊎_elim
            (λ o. inl (owned-set views id v at grown k (grown-has k) o))
            (λ q. inr (unowned-longer unowned v.log (entries more) k b q))
            (subst (λ l. IsOwned views k ⊎ HoldsAt unowned l k) (sym same) (h.owned k (subst (λ l. k < length l) same b))))
            (λ (b : IsAmong k (place_of v.log more) ⊎ HoldsAt unowned log k).
            ⊎_elim
            (λ c. inl (owned-new views id v at grown k (among-left k (place_of v.log more ++ v.others_own) v.own (among-left k (place_of v.log more) v.others_own c))))
            (λ q. inr q)
            b)
            (place-covers unowned v.others_share v.log more may k lt);
        shares = shared-set h.scale views id v grown h.shares at (halved-at h.scale views id v h.shares.halved at) (omega arith);
      }
