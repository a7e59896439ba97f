-- How a pass's tale goes on, and what two passes with all shares tell together.
use Rattle.kanal_exchange.proofs.Common.{◌≡◌, ◌+◌, ◌-◌, ◌⊎◌, ℕ, zero, suc, HoldsAt, List, [], ◌∷◌, ◌++◌, length, map, filter, take, sum_by, Option, Some, refl, sym, ap, ◌∙◌, subst, ⊎_elim, inl, inr, arith, append-nil, append_assoc, length-append, IsPrefix, take-length, Known, IsAmong, AreDisjoint, AreBelow, OwnsAllBut, prefix_length, prefix_trans, PairedHistory, Demand, history_from, along, sent, asked, cleared_by, kept, receipts, receipts_from, send_stays, demand_stays, without_last, ArePaired, Paired, Call, MovesNoMessage, AreTold, IsLegal, with_calls, history_of, AreGot, ArePut, Exchanges, ExchangesNothing, HasMade, WaitsAsSettled, got_longer, got_more, got_none, got_received, put_kept, put_longer, put_more, put_none, legal-paired, waits_as_settled, read_at, marks_of, sent_in, asked_in, cleared_in, HasExchanged}
use Rattle.std.proofs.lemmas.Option.{none-some}
use Rattle.std.proofs.lemmas.List.Sums.{sum_by-append}
use Rattle.kanal_core.specs.Line.{Line}
use Rattle.kanal_events.specs.Steps.{step}
use Rattle.kanal_journal.specs.Runs.{numbered, opening_line}
use Rattle.kanal_events.specs.declared.event.Event.{Event}
use Rattle.kanal_events.specs.declared.event.Reply.{Reply}
use Rattle.kanal_journal.specs.declared.journal.report.Settlement.{Settlement}
use Rattle.kanal_one_history.specs.History.{Appends}
use Rattle.kanal_one_history.proofs.NoMessage.{exchanges_nothing}
use Rattle.kanal_exchange.proofs.Places.{AreCovered, among-swap, covered-all, covered-more, read_all, read-behind, read-longer, read-call, read-whole}

module _ {T : Type 0} where
  -- what one call adds to what is read
  own-more : {X : Type 0} (f : Call T → List X) (capacity : Option ℕ) (old new : Known (Call T)) (call : Call T) → AreBelow (length old.log) old.own → Appends capacity old new call → read_at f new.own 0 new.log ≡ read_at f old.own 0 old.log ++ f call
  own-more f capacity old new call below m =
      (ap (λ (own : List ℕ). read_at f own 0 new.log) m.own ∙ ap (λ (log : List (Call T)). read_at f (length m.before ∷ old.own) 0 log) m.last) ∙ read-call f old.own old.log m.before call below m.seen

  -- a pass with no place has no tale
  own-none : {X : Type 0} (f : Call T → List X) (known : Known (Call T)) → known.own ≡ [] → read_at f known.own 0 known.log ≡ []
  own-none f known none = read-behind f known.own 0 0 known.log (λ k a. absurd (subst (λ (own : List ℕ). IsAmong k own) none a)) (omega arith)

  pub cleared-none : (call : Call T) → cleared_by call.reply ≡ 0 → cleared_in call ≡ []
  cleared-none call e = marks (cleared_by call.reply) e
    where
      marks : (n : ℕ) → n ≡ 0 → marks_of n ≡ []
      marks zero e = refl
      marks (suc n) e = absurd (omega arith)

  -- what one call adds to what is read, whatever the pass has seen since
  made-more : {X : Type 0} (f : Call T → List X) (capacity : Option ℕ) (old new : Known (Call T)) (call : Call T) → AreBelow (length old.log) old.own → (m : HasMade capacity old new call) → AreBelow (length m.mid.log) m.mid.own
      → read_at f new.own 0 new.log ≡ read_at f old.own 0 old.log ++ f call
  made-more f capacity old new call below m here =
      ap (λ (own : List ℕ). read_at f own 0 new.log) m.extends.own ∙ (read-longer f m.mid.own m.mid.log new.log here m.extends.seen ∙ own-more f capacity old m.mid call below m.made)

  -- the places stay below what the pass has seen
  made-below : (capacity : Option ℕ) (old mid : Known (Call T)) (call : Call T) → AreBelow (length old.log) old.own → Appends capacity old mid call → AreBelow (length mid.log) mid.own
  made-below capacity old mid call below m k among =
      let among' : IsAmong k (length m.before ∷ old.own) = subst (λ (own : List ℕ). IsAmong k own) m.own among in
      let long : length mid.log ≡ length m.before + 1 = ap length m.last ∙ length-append m.before (call ∷ []) in
      let old_long = prefix_length old.log m.before m.seen in
      ⊎_elim (λ (e : k ≡ length m.before). omega arith) (λ (b : IsAmong k old.own). let q = below k b in omega arith) among'

  made-seen : (capacity : Option ℕ) (old new : Known (Call T)) (call : Call T) → HasMade capacity old new call → IsPrefix old.log new.log
  made-seen capacity old new call m =
      let here : IsPrefix m.made.before m.mid.log = (call ∷ [], sym m.made.last) in
      prefix_trans old.log m.mid.log new.log (prefix_trans old.log m.made.before m.mid.log m.made.seen here) m.extends.seen

  -- what one call adds to the tale
  pub tells_more : (capacity : Option ℕ) (put got more_put more_got : List T) (old new : Known (Call T)) → HasExchanged put got old → Exchanges capacity old new more_put more_got
      → HasExchanged (put ++ more_put) (got ++ more_got) new × (new.share ≡ old.share)
  tells_more capacity put got more_put more_got old new t x =
      let call = x.call in
      let m = x.made in
      let seen = made-seen capacity old new call m in
      let here = made-below capacity old m.mid call t.below m.made in
      let long = prefix_length m.mid.log new.log m.extends.seen in
      let puts = made-more sent_in capacity old new call t.below m here in
      let gets = made-more asked_in capacity old new call t.below m here in
      let clears = made-more cleared_in capacity old new call t.below m here in (
        record {
          below = λ k among. let b = here k (subst (λ (own : List ℕ). IsAmong k own) m.extends.own among) in omega arith;
          puts = subst (λ ss. ArePut new.log ss (put ++ more_put)) (sym puts) (put_more new.log (read_at sent_in old.own 0 old.log) put (sent_in call) more_put (put_longer old.log new.log seen (read_at sent_in old.own 0 old.log) put t.puts) x.puts);
          gets = subst (λ ds. AreGot new.log ds (got ++ more_got)) (sym gets) (got_more new.log (read_at asked_in old.own 0 old.log) got (asked_in call) more_got (got_longer old.log new.log seen (read_at asked_in old.own 0 old.log) got t.gets) x.gets);
          clears = clears ∙ (ap (λ xs. xs ++ cleared_in call) t.clears ∙ cleared-none call x.clears);
        },
        m.extends.share ∙ m.made.share,
      )

  -- who has seen more, and has no other calls, tells the same
  pub tells_longer : (put got : List T) (old new : Known (Call T)) → HasExchanged put got old → IsPrefix old.log new.log → new.own ≡ old.own → HasExchanged put got new
  tells_longer put got old new t seen own =
      let long = prefix_length old.log new.log seen in
      record {
        below = λ k among. let b = t.below k (subst (λ (xs : List ℕ). IsAmong k xs) own among) in omega arith;
        puts = subst (λ ss. ArePut new.log ss put) (sym (same sent_in)) (put_longer old.log new.log seen (read_at sent_in old.own 0 old.log) put t.puts);
        gets = subst (λ ds. AreGot new.log ds got) (sym (same asked_in)) (got_longer old.log new.log seen (read_at asked_in old.own 0 old.log) got t.gets);
        clears = same cleared_in ∙ t.clears;
      }
    where
      same : {X : Type 0} (f : Call T → List X) → read_at f new.own 0 new.log ≡ read_at f old.own 0 old.log
      same f = ap (λ (xs : List ℕ). read_at f xs 0 new.log) own ∙ read-longer f old.own old.log new.log t.below seen

  -- a pass that has made no call
  pub tells_none : (known : Known (Call T)) → known.own ≡ [] → HasExchanged [] [] known
  tells_none known none =
      record {
        below = λ k a. absurd (subst (λ (own : List ℕ). IsAmong k own) none a);
        puts = subst (λ ss. ArePut known.log ss []) (sym (own-none sent_in known none)) tt;
        gets = subst (λ ds. AreGot known.log ds []) (sym (own-none asked_in known none)) tt;
        clears = own-none cleared_in known none;
      }

  -- what the steps of a history of calls tell
  pub along-calls : {X : Type 0} (f : Event T → Reply T → List X) (es : List (Event T)) (rs : List (Reply T)) (ss : List (Settlement T)) (ds : List T) (cs : List (Call T)) → length es ≡ length rs
      → along f (with_calls (history_from es rs ss ds) cs).events (with_calls (history_from es rs ss ds) cs).replies ≡ along f es rs ++ read_all (λ (c : Call T). f c.event c.reply) cs
  along-calls f es rs ss ds [] even = sym (append-nil (along f es rs))
  along-calls f es rs ss ds (c ∷ cs) even =
      along-calls f (es ++ c.event ∷ []) (rs ++ c.reply ∷ []) _ _ cs (length-append es (c.event ∷ []) ∙ (ap (λ n. n + 1) even ∙ sym (length-append rs (c.reply ∷ []))))
      ∙ (ap (λ xs. xs ++ read_all (λ (x : Call T). f x.event x.reply) cs) (along-more es rs even) ∙ append_assoc (along f es rs) (f c.event c.reply) (read_all (λ (x : Call T). f x.event x.reply) cs))
    where
      along-more : (us : List (Event T)) (bs : List (Reply T)) → length us ≡ length bs → along f (us ++ c.event ∷ []) (bs ++ c.reply ∷ []) ≡ along f us bs ++ f c.event c.reply
      along-more [] [] e = append-nil (f c.event c.reply)
      along-more [] (b ∷ bs) e = absurd (omega arith)
      along-more (a ∷ us) [] e = absurd (omega arith)
      along-more (a ∷ us) (b ∷ bs) e = ap (λ xs. f a b ++ xs) (along-more us bs (omega arith)) ∙ sym (append_assoc (f a b) (along f us bs) (f c.event c.reply))

  pub cleared-calls : (es : List (Event T)) (rs : List (Reply T)) (ss : List (Settlement T)) (ds : List T) (cs : List (Call T))
      → sum_by cleared_by (with_calls (history_from es rs ss ds) cs).replies ≡ sum_by cleared_by rs + length (read_all cleared_in cs)
  cleared-calls es rs ss ds [] = omega arith
  cleared-calls es rs ss ds (c ∷ cs) =
      let r = cleared-calls (es ++ c.event ∷ []) (rs ++ c.reply ∷ []) (ss ++ numbered (length rs) c.settled) (ds ++ c.drained) cs in
      let s = sum_by-append cleared_by rs (c.reply ∷ []) in
      omega (arith, r, s, length-append (cleared_in c) (read_all cleared_in cs), length-rep (cleared_by c.reply))
    where
      length-rep : (n : ℕ) → length (marks_of n) ≡ n
      length-rep zero = refl
      length-rep (suc n) = ap suc (length-rep n)

  -- what was got is what was put first
  pub paired-take : (got put : List T) → ArePaired (map Some got) put → got ≡ take (length got) put
  paired-take [] put p = refl
  paired-take (g ∷ gs) [] p = absurd (none-some g (sym p.0))
  paired-take (g ∷ gs) (m ∷ ms) p = let r = paired-take gs ms p.1 in let e : g ≡ m = cc (p.0) in cc (e, r)

  pub all-taken : (ms : List T) (n : ℕ) → n ≡ 0 → take (length ms - n) ms ≡ ms
  all-taken ms n e = ap (λ k. take (length ms - k) ms) e ∙ (ap (λ k. take k ms) (omega arith) ∙ take-length ms)

  -- as many as all are all
  pub took-all : (got put : List T) → got ≡ take (length got) put → length got ≡ length put → got ≡ put
  took-all got put is even = is ∙ (ap (λ n. take n put) even ∙ take-length put)

  -- what is read at the places of one alone is read of all
  whole-one : {X : Type 0} (f : Call T → List X) → ((c : Call T) → ExchangesNothing c → f c ≡ []) → (one other : Known (Call T)) (log : List (Call T)) → AreBelow (length one.log) one.own → AreBelow (length other.log) other.own → IsPrefix one.log log → IsPrefix other.log log
      → AreDisjoint one.own other.own → AreCovered ExchangesNothing (other.own ++ one.own) 0 log → read_at f other.own 0 other.log ≡ [] → read_all f log ≡ read_at f one.own 0 one.log
  whole-one f unowned one other log below below' seen heard apart all none =
      read-whole f ExchangesNothing unowned one.own other.own 0 log all apart (read-longer f other.own other.log log below' heard ∙ none) ∙ read-longer f one.own one.log log below seen

  -- calls of events that move no message put nothing and got nothing, where each was told what its line tells
  covered-told : (l : Line T) (own : List ℕ) (n : ℕ) (log : List (Call T)) → AreTold l log → AreCovered (λ (c : Call T). MovesNoMessage c.event) own n log → AreCovered ExchangesNothing own n log
  covered-told l own n [] told all = tt
  covered-told l own n (c ∷ cs) told all = (
    ⊎_elim (λ (a : IsAmong n own). inl a) (λ (h : MovesNoMessage c.event). inr (exchanges_nothing c (l, told.0) h)) all.0,
    covered-told (step l c.event).line own (suc n) cs told.1 all.1,
  )

  -- who owns all calls that move messages of a legal history owns all that put or got
  pub owned_covered : (capacity : Option ℕ) (log : List (Call T)) (own : List ℕ) → IsLegal capacity log → OwnsAllBut (λ (c : Call T). MovesNoMessage c.event) log own → AreCovered ExchangesNothing own 0 log
  owned_covered capacity log own legal owns =
      covered-told (opening_line capacity) own 0 log legal (covered-all (λ (c : Call T). MovesNoMessage c.event) own 0 log (λ k lt. subst (λ j. IsAmong j own ⊎ HoldsAt (λ (c : Call T). MovesNoMessage c.event) log k) (plus-nothing k) (owns.all k lt)))
    where
      plus-nothing : (k : ℕ) → k ≡ 0 + k
      plus-nothing k = omega arith

  -- two passes beside whom nobody put or got: what the one got is what the other put first
  pub exchanged : (capacity : Option ℕ) (one other : Known (Call T)) (log : List (Call T)) (put got : List T) → HasExchanged put [] one → HasExchanged [] got other → IsPrefix one.log log → IsPrefix other.log log
      → AreDisjoint one.own other.own → IsLegal capacity log → OwnsAllBut (λ (c : Call T). MovesNoMessage c.event) log (other.own ++ one.own) → got ≡ take (length got) put
  exchanged capacity one other log put got s r seen heard apart legal owns =
      let all = owned_covered capacity log (other.own ++ one.own) legal owns in
      let waits : WaitsAsSettled log = waits_as_settled capacity log legal in
      let paired : Paired (history_of log) = legal-paired capacity log legal in
      let all' : AreCovered ExchangesNothing (one.own ++ other.own) 0 log = covered-more ExchangesNothing (other.own ++ one.own) (one.own ++ other.own) 0 log (among-swap other.own one.own) all in
      let apart' : AreDisjoint other.own one.own = λ k a b. apart k b a in
      let h : PairedHistory T = history_of log in
      let ss : List (T × Option ℕ) = read_at sent_in one.own 0 one.log in
      let ds : List (Demand T) = read_at asked_in other.own 0 other.log in
      let asks : read_at asked_in one.own 0 one.log ≡ [] = got_none one.log (read_at asked_in one.own 0 one.log) s.gets in
      let sends : read_at sent_in other.own 0 other.log ≡ [] = put_none other.log (read_at sent_in other.own 0 other.log) r.puts in
      let puts : along sent h.events h.replies ≡ ss = along-calls sent [] [] [] [] log refl ∙ whole-one sent_in (λ c q. q.sends) one other log s.below r.below seen heard apart all sends in
      let gets : along asked h.events h.replies ≡ ds = along-calls asked [] [] [] [] log refl ∙ whole-one asked_in (λ c q. q.asks) other one log r.below s.below heard seen apart' all' asks in
      let none : length (read_all cleared_in log) ≡ 0 = ap length (whole-one cleared_in (λ c q. cleared-none c q.clears) one other log s.below r.below seen heard apart all r.clears ∙ s.clears) in
      let count = cleared-calls [] [] [] [] log in
      let clears : sum_by cleared_by h.replies ≡ 0 = count ∙ omega (arith, none) in
      let is_kept : kept h ≡ put =
      (ap (λ xs. without_last (sum_by cleared_by h.replies) (map (λ (x : T × Option ℕ). x.0) (filter (send_stays h) xs))) puts
      ∙ ap (λ xs. without_last (sum_by cleared_by h.replies) xs) (put_kept log waits ss put (put_longer one.log log seen ss put s.puts))) ∙ all-taken put (sum_by cleared_by h.replies) clears in
      let is_got : receipts h ≡ map Some got =
      ap (λ xs. receipts_from h.settled (filter (demand_stays h) xs) h.drained) gets ∙ got_received log waits ds got (got_longer other.log log heard ds got r.gets) h.drained in
      paired-take got put (subst (λ xs. ArePaired (map Some got) xs) is_kept (subst (λ xs. ArePaired xs (kept h)) is_got paired))
