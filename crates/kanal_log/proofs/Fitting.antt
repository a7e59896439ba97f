-- Views that fit a history.
use Rattle.kanal_log.proofs.Common.{◌≡◌, ◌≢◌, ℕ, List, [], length, set, true, false, true≢false, refl, sym, subst, ⊎_elim, arith, some, IsPrefix, get_elem?, at_set, Share, LogView, IsAmong, AreDistinct, AreBelow, reader_view, all_own, ViewFits}
use Rattle.kanal_log.proofs.Readers.{prefix_length}
use Rattle.kanal_log.proofs.Places.{among-cases}

pub off : false ≡ true → ⊥
off e = true≢false (sym e)

module _ {E : Type 0} where
  pub fits-set : (seat : ℕ) (now : List E) (views : List (LogView E)) (by : ℕ) (w : LogView E) → ((j : ℕ) (u : LogView E) → j ≢ by → get_elem? views j ≡ some u → ViewFits seat now j u) → ViewFits seat now by w → (j : ℕ) (u : LogView E) → get_elem? (set views by w) j ≡ some u → ViewFits seat now j u
  fits-set seat now views by w others mine j u e =
      ⊎_elim
      (λ (x : (j ≡ by) × (w ≡ u)). subst (λ (y : ℕ × LogView E). ViewFits seat now y.0 y.1) (λ i. (sym x.0 i, x.1 i)) mine)
      (λ (x : (j ≢ by) × (get_elem? views j ≡ some u)). others j u x.0 x.1)
      (at_set views by j w u e)

  -- a reader fits that has seen a beginning
  pub reader_view-fits : (seat : ℕ) (now : List E) (by : ℕ) (log : List E) (own : List ℕ) (share : Share) → IsPrefix log now → AreBelow (length log) own → AreDistinct own → (share.count ≡ 0 → own ≡ []) → ViewFits seat now by (reader_view log own share)
  reader_view-fits seat now by log own share p below distinct idle =
      record {
        keeps = λ k. absurd (off k);
        seen = p;
        shown = (now, refl);
        below = below;
        others_below = λ k a. absurd a;
        distinct = distinct;
        idle = idle;
        others_idle = λ _. refl;
      }

  -- each place of a view is one of the history
  pub all-below : (seat : ℕ) (log : List E) (by : ℕ) (v : LogView E) → ViewFits seat log by v → AreBelow (length log) (all_own v)
  all-below seat log by v f k a =
      ⊎_elim
      (λ (b : IsAmong k v.others_own). let p = prefix_length v.other log f.shown in let q = f.others_below k b in omega arith)
      (λ (b : IsAmong k v.own). let p = prefix_length v.log log f.seen in let q = f.below k b in omega arith)
      (among-cases k v.others_own v.own a)
