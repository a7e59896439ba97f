-- What a call put or got, in the history and in each longer one, and what it means for all that was kept.
use Rattle.kanal_one_history.proofs.Common.{◌≡◌, ℕ, List, [], ◌∷◌, ◌++◌, map, filter, Option, Some, None, refl, ap, Demand, AtOnce, Later, Next, demand_stays, receipts_from, send_stays, Call, history_of, AreGot, ArePut, WaitsAsSettled}
use mathlib.Core.List.{IsPrefix}
use Rattle.kanal_core.specs.declared.internal.outcome.Outcome.TheVariants.{Taken, Given}
use Rattle.kanal_one_history.specs.Sound.{settled_longer}

module _ {T : Type 0} where
  -- what was put or got stays so in each longer history
  pub put_longer : (xs ys : List (Call T)) → IsPrefix xs ys → (ss : List (T × Option ℕ)) (ms : List T) → ArePut xs ss ms → ArePut ys ss ms
  put_longer xs ys p [] [] a = tt
  put_longer xs ys p [] (m ∷ ms) a = absurd a
  put_longer xs ys p (s ∷ ss) [] a = absurd a
  put_longer xs ys p ((x, None) ∷ ss) (m ∷ ms) a = (a.0, put_longer xs ys p ss ms a.1)
  put_longer xs ys p ((x, Some t) ∷ ss) (m ∷ ms) a = (a.0, settled_longer xs ys (t, Taken) p a.1, put_longer xs ys p ss ms a.2)

  pub got_longer : (xs ys : List (Call T)) → IsPrefix xs ys → (ds : List (Demand T)) (ms : List T) → AreGot xs ds ms → AreGot ys ds ms
  got_longer xs ys p [] [] a = tt
  got_longer xs ys p [] (m ∷ ms) a = absurd a
  got_longer xs ys p (d ∷ ds) [] a = absurd a
  got_longer xs ys p (AtOnce x ∷ ds) (m ∷ ms) a = (a.0, got_longer xs ys p ds ms a.1)
  got_longer xs ys p (Later t ∷ ds) (m ∷ ms) a = (settled_longer xs ys (t, Given m) p a.0, got_longer xs ys p ds ms a.1)
  got_longer xs ys p (Next ∷ ds) (m ∷ ms) a = absurd a

  -- and what was put or got after it comes behind it
  pub put_more : (log : List (Call T)) (ss : List (T × Option ℕ)) (ms : List T) (more : List (T × Option ℕ)) (ns : List T)
      → ArePut log ss ms → ArePut log more ns → ArePut log (ss ++ more) (ms ++ ns)
  put_more log [] [] more ns a b = b
  put_more log [] (m ∷ ms) more ns a b = absurd a
  put_more log (s ∷ ss) [] more ns a b = absurd a
  put_more log ((x, None) ∷ ss) (m ∷ ms) more ns a b = (a.0, put_more log ss ms more ns a.1 b)
  put_more log ((x, Some t) ∷ ss) (m ∷ ms) more ns a b = (a.0, a.1, put_more log ss ms more ns a.2 b)

  pub got_more : (log : List (Call T)) (ds : List (Demand T)) (ms : List T) (more : List (Demand T)) (ns : List T)
      → AreGot log ds ms → AreGot log more ns → AreGot log (ds ++ more) (ms ++ ns)
  got_more log [] [] more ns a b = b
  got_more log [] (m ∷ ms) more ns a b = absurd a
  got_more log (d ∷ ds) [] more ns a b = absurd a
  got_more log (AtOnce x ∷ ds) (m ∷ ms) more ns a b = (a.0, got_more log ds ms more ns a.1 b)
  got_more log (Later t ∷ ds) (m ∷ ms) more ns a b = (a.0, got_more log ds ms more ns a.1 b)
  got_more log (Next ∷ ds) (m ∷ ms) more ns a b = absurd a

  -- who put nothing has no message that entered, and who got nothing has no demand
  pub put_none : (log : List (Call T)) (ss : List (T × Option ℕ)) → ArePut log ss [] → ss ≡ []
  put_none log [] a = refl
  put_none log (s ∷ ss) a = absurd a

  pub got_none : (log : List (Call T)) (ds : List (Demand T)) → AreGot log ds [] → ds ≡ []
  got_none log [] a = refl
  got_none log (d ∷ ds) a = absurd a

  -- what was put is kept
  pub put_kept : (log : List (Call T)) → WaitsAsSettled log → (ss : List (T × Option ℕ)) (ms : List T) → ArePut log ss ms
      → map (λ (s : T × Option ℕ). s.0) (filter (send_stays (history_of log)) ss) ≡ ms
  put_kept log waits [] [] a = refl
  put_kept log waits [] (m ∷ ms) a = absurd a
  put_kept log waits (s ∷ ss) [] a = absurd a
  put_kept log waits ((x, None) ∷ ss) (m ∷ ms) a = cc (a.0, put_kept log waits ss ms a.1)
  put_kept log waits ((x, Some t) ∷ ss) (m ∷ ms) a =
      let stays = (waits t Taken a.1 refl).0 in
      let rest = put_kept log waits ss ms a.2 in
      rw (stays, rest) (ap (λ y. y ∷ ms) a.0)

  -- what was got is what the kept demands received
  pub got_received : (log : List (Call T)) → WaitsAsSettled log → (ds : List (Demand T)) (ms : List T) → AreGot log ds ms → (drained : List T)
      → receipts_from (history_of log).settled (filter (demand_stays (history_of log)) ds) drained ≡ map Some ms
  got_received log waits [] [] a drained = refl
  got_received log waits [] (m ∷ ms) a drained = absurd a
  got_received log waits (d ∷ ds) [] a drained = absurd a
  got_received log waits (AtOnce x ∷ ds) (m ∷ ms) a drained =
      let rest = got_received log waits ds ms a.1 drained in
      rw rest (ap (λ y. Some y ∷ map Some ms) a.0)
  got_received log waits (Later t ∷ ds) (m ∷ ms) a drained =
      let w = waits t (Given m) a.0 refl in
      let rest = got_received log waits ds ms a.1 drained in
      rw (w.0, w.1, rest) refl
  got_received log waits (Next ∷ ds) (m ∷ ms) a drained = absurd a
