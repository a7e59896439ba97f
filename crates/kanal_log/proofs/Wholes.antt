-- Who has all of the right to add entries.
use Rattle.kanal_log.proofs.Common.{◌≡◌, ◌≢◌, ◌⊎◌, ◌<◌, ◌≤◌, ℕ, List, [], length, HoldsAt, sym, ap, ◌∙◌, subst, ⊎_elim, inl, inr, arith, some, some-injective, dite, ℕ_discrete, get_elem?, LogView, doubled, IsWhole, IsAmong, all_own, all_worth, IsOwned, ViewsAgree, IsUnownedBehind}
use Rattle.kanal_log.proofs.Places.{among-cases, unowned-behind}
use Rattle.kanal_log.proofs.Shares.{worth-whole, worthless}
use Rattle.kanal_log.proofs.Worths.{worth-one, worth-two, halved-at}

module _ {E : Type 0} (unowned : E → Type 0) where
  -- beside all of the right no view has a place
  idle-beside : (views : List (LogView E)) (h : ViewsAgree unowned views) (id by : ℕ) (v u : LogView E) → id ≢ by → get_elem? views id ≡ some v → get_elem? views by ≡ some u → doubled h.scale 1 ≤ all_worth h.scale v → (k : ℕ) → IsAmong k (all_own u) → ⊥
  idle-beside views h id by v u n at stands all k a =
      let two = worth-two h.scale views id by v u n at stands in
      let most = h.shares.most in
      let f = h.fits by u stands in
      let none : u.own ≡ [] = f.idle (worthless h.scale u.share (omega arith)) in
      let none' : u.others_own ≡ [] = f.others_idle (worthless h.scale u.others_share (omega arith)) in
      ⊎_elim
      (λ (b : IsAmong k u.others_own). subst (λ (xs : List ℕ). IsAmong k xs) none' b)
      (λ (b : IsAmong k u.own). subst (λ (xs : List ℕ). IsAmong k xs) none b)
      (among-cases k u.others_own u.own a)

  -- who has all of the right owns the whole history, but for the unowned entries
  pub all-owned : (views : List (LogView E)) (h : ViewsAgree unowned views) (id : ℕ) (v : LogView E) → get_elem? views id ≡ some v → doubled h.scale 1 ≤ all_worth h.scale v → (k : ℕ) → k < length h.log → IsAmong k (all_own v) ⊎ HoldsAt unowned h.log k
  all-owned views h id v at all k lt =
      ⊎_elim
      (λ (o : IsOwned views k).
      dite (ℕ_discrete id o.by)
      (λ (e : id ≡ o.by).
      let same : o.view ≡ v = some-injective o.view v (sym o.stands ∙ (ap (λ n. get_elem? views n) (sym e) ∙ at)) in
      inl (subst (λ (u : LogView E). IsAmong k (all_own u)) same o.mine))
      (λ (n : id ≢ o.by). absurd (idle-beside views h id o.by v o.view n at o.stands all k o.mine)))
      (λ q. inr q)
      (h.owned k lt)

  -- where all of the right is with who was put into the writer, what that one had not seen is unowned
  pub only-unowned : (views : List (LogView E)) (h : ViewsAgree unowned views) (id : ℕ) (v : LogView E) → get_elem? views id ≡ some v → IsWhole v.others_share → IsUnownedBehind unowned v.other h.log
  only-unowned views h id v at is =
      let f = h.fits id v at in
      let was = halved-at h.scale views id v h.shares.halved at in
      let all = worth-whole h.scale v.others_share is was.0 in
      let one = worth-one h.scale views id v at in
      let most = h.shares.most in
      let none : v.own ≡ [] = f.idle (worthless h.scale v.share (omega arith)) in
      unowned-behind unowned v.other h.log
      (λ k le lt. ⊎_elim
      (λ a. ⊎_elim
      (λ b. let q = f.others_below k b in absurd (omega arith))
      (λ b. absurd (subst (λ (xs : List ℕ). IsAmong k xs) none b))
      (among-cases k v.others_own v.own a))
      (λ q. q)
      (all-owned views h id v at (omega arith) k lt))
