-- A drain: the whole line leaves.
use Rattle.kanal_journal.proofs.Common.{◌≡◌, ℕ, zero, suc, List, [], ◌∷◌, ◌++◌, length, map, filter, replicate, refl, sym, ap, ◌∙◌, inl, arith, append-nil, sum_by, LineEntry, Line, bare, messages, tickets, Drain, Reply, Drained, Settlement, PairedHistory, AtOnce, Next, cleared_by, demand_stays}
use Rattle.std.proofs.Math.ListN.{length-map}
use Rattle.kanal_journal.proofs.Sends.{longer, later, ticket_stays}
use Rattle.kanal_journal.proofs.Slots.{resolve, nexts}
use Rattle.kanal_journal.proofs.Settling.{AreApart, takes, none_ends, all_stay, later_taken, seated_all}
use Rattle.kanal_journal.proofs.Holding.{Holds, Moves, waits}
use Rattle.kanal_journal.proofs.Cleaning.{taken-now, later-there}
use Rattle.kanal_journal.proofs.Upkeep.{Clean, holds_next}
use Rattle.kanal_journal.proofs.Ending.{seats-none}

next-count : (T : Type 0) (k : ℕ) → nexts {T = T} (replicate k Next) ≡ k
next-count T zero = refl
next-count T (suc k) = ap suc (next-count T k)

module _ {T : Type 0} where
  -- the next so many demands take the next so many messages
  all-next : (ss : List (Settlement T)) (ms : List T) → resolve ss (replicate (length ms) Next) ms ≡ map AtOnce ms
  all-next ss [] = refl
  all-next ss (m ∷ ms) = ap (λ ys. AtOnce m ∷ ys) (all-next ss ms)

  next-stays : (h : PairedHistory T) (k : ℕ) → filter (demand_stays h) (replicate k Next) ≡ replicate k Next
  next-stays h zero = refl
  next-stays h (suc k) = ap (λ ys. Next ∷ ys) (next-stays h k)

  -- all entries are served
  drained_move : (n : ℕ) (r : Reply T) (xs : List (LineEntry T)) → map (later (takes T n (tickets xs))) (filter (λ x. ticket_stays Drain r (takes T n (tickets xs)) x.ticket) xs) ≡ map bare (messages xs)
  drained_move n r xs = rw (all_stay T n Drain r refl (tickets xs) xs) (later_taken T n (tickets xs) xs (λ t g. g) ∙ sym (seated_all xs))

  module _ (h : PairedHistory T) (l : Line T) (now : Holds h l) (n : ℕ) (none : l.demands ≡ []) where
    abbrev reply : Reply T
    reply = Drained (length l.line)

    abbrev ss : List (Settlement T)
    ss = takes T n (tickets l.line)

    abbrev moves_drain : Moves h l Drain reply ss (messages l.line) (record l { line = [] })
    moves_drain =
        let count : length (messages l.line) ≡ length l.line = length-map l.line (λ e. e.message) in
        record {
          moved = messages l.line;
          line = append-nil _ ∙ (drained_move n reply l.line ∙ sym (append-nil _));
          demands = rw (none, ← count) (all-next _ (messages l.line) ∙ sym (append-nil _));
          goes_waiting = λ t g. absurd (cc (none_ends T n (tickets l.line) t, g));
          send_new = refl;
          entry_new = refl;
          demand_new = next-stays (longer h Drain reply ss (messages l.line)) (length l.line);
        }

    clean_drain : Clean l Drain reply ss (messages l.line) (record l { line = [] })
    clean_drain =
        let parts : tickets l.line ++ [] ≡ waits l = rw none refl in
        let apart : AreApart (tickets l.line ++ []) = rw none at now.apart in
        record {
          told_of = λ t k. taken-now n Drain reply refl t (tickets l.line) [] (waits l) (waits (record l { line = [] })) parts none apart k;
          waits_of = λ t k. inl (later-there t (tickets l.line) [] (waits l) (waits (record l { line = [] })) parts none k);
          rises = omega arith;
          one = inl refl;
          apart = rw none tt;
          seats = seats-none T l.capacity;
          drains = next-count T (length l.line) ∙ sym (length-map l.line (λ e. e.message));
        }

    -- after a drain nothing is left
    pub holds_drain : sum_by cleared_by h.replies ≡ 0 → Holds (longer h Drain reply ss (messages l.line)) (record l { line = [] })
    holds_drain z = holds_next h l now Drain reply ss (messages l.line) (record l { line = [] }) moves_drain clean_drain refl z
