-- One piece of an answer after another.
use Rattle.kanal_script.proofs.Common.{◌≡◌, ℕ, ◌<◌, ◌+◌, List, [], ◌∷◌, ◌++◌, take, drop, decimal, sym, refl, ap, ◌∙◌, append_assoc, append-nil, Option, Some, None, length, get_or, add-one, drop-cons, arith, subst, take_more, take-append-drop, Appends, Keeps, AppendsBeginning, line, messages_text, settlements_text, settlement_words, reply_words, counted, drained_count, cleared_count, count_settled, replies_text}
use Rattle.kanal_events.specs.declared.event.Reply.{Reply}
use Rattle.kanal_journal.specs.declared.journal.report.Settlement.{Settlement}

-- nothing is written
pub appends_none : (a : Option (List ℕ)) → Appends a a []
appends_none None = tt
appends_none (Some xs) = sym (append-nil xs)

-- one text is written, and then another
pub appends_more : (a b c : Option (List ℕ)) (bs cs : List ℕ) → Appends a b bs → Appends b c cs → Appends a c (bs ++ cs)
appends_more None b c bs cs h k = tt
appends_more (Some xs) None c bs cs h k = absurd h
appends_more (Some xs) (Some ys) None bs cs h k = absurd k
appends_more (Some xs) (Some ys) (Some zs) bs cs h k = rw (k, h) (append_assoc xs bs cs)

-- a text in two parts
pub messages_text-append : (xs ys : List ℕ) → messages_text (xs ++ ys) ≡ messages_text xs ++ messages_text ys
messages_text-append [] ys = refl
messages_text-append (x ∷ xs) ys = rw (messages_text-append xs ys) (sym (append_assoc (32 ∷ decimal x) (messages_text xs) (messages_text ys)))

-- a text of settlements in two parts
pub settlements_text-append : (xs ys : List (Settlement ℕ)) → settlements_text (xs ++ ys) ≡ settlements_text xs ++ settlements_text ys
settlements_text-append [] ys = refl
settlements_text-append (x ∷ xs) ys = rw (settlements_text-append xs ys) (sym (append_assoc (line (settlement_words x)) (settlements_text xs) (settlements_text ys)))

-- one more message
pub message_more : (a b c : Option (List ℕ)) (messages : List ℕ) (i : ℕ) → i < length messages → Appends a b (messages_text (take i messages)) → Appends b c (32 ∷ decimal (get_or messages i 0)) → Appends a c (messages_text (take (i + 1) messages))
message_more a b c messages i inside before next =
    rw (take_more messages i 0 inside, messages_text-append (take i messages) (get_or messages i 0 ∷ []), append-nil (32 ∷ decimal (get_or messages i 0))) (appends_more a b c _ _ before next)

-- one more settlement
pub settlement_more : (a b c : Option (List ℕ)) (settled : List (Settlement ℕ)) (i : ℕ) (d : Settlement ℕ) → i < length settled → Appends a b (settlements_text (take i settled)) → Appends b c (line (settlement_words (get_or settled i d))) → Appends a c (settlements_text (take (i + 1) settled))
settlement_more a b c settled i d inside before next =
    rw (take_more settled i d inside, settlements_text-append (take i settled) (get_or settled i d ∷ []), append-nil (line (settlement_words (get_or settled i d)))) (appends_more a b c _ _ before next)

-- what is written, and what is still to write, are the report
abbrev pub IsPrintedTo : Option (List ℕ) → Option (List ℕ) → List ℕ → List ℕ → Type 0
IsPrintedTo a b later whole = (front : List ℕ) × Appends a b front × (front ++ later ≡ whole)

-- known bytes that stay grow by nothing
pub kept_none : (a b : Option (List ℕ)) → Keeps a b → Appends a b []
kept_none None b h = tt
kept_none (Some xs) None h = absurd h
kept_none (Some xs) (Some ys) h = h ∙ sym (append-nil xs)

-- what is written so far is a beginning of the whole
pub begun : (a b : Option (List ℕ)) (later whole : List ℕ) → IsPrintedTo a b later whole → AppendsBeginning a b whole
begun a b later whole i = (i.0, later, i.2, i.1)

-- where nothing more is to write, the whole is written
pub done : (a b : Option (List ℕ)) (later whole : List ℕ) → length later ≡ 0 → IsPrintedTo a b later whole → Appends a b whole
done a b [] whole none i = subst (λ (xs : List ℕ). Appends a b xs) (sym (append-nil i.0) ∙ i.2) i.1
done a b (x ∷ later) whole none i = absurd (omega (arith, none))

-- one more piece is written
pub piece_more : (a b c : Option (List ℕ)) (n : ℕ) (later later' whole : List ℕ) → later' ≡ drop n later → IsPrintedTo a b later whole → Appends b c (take n later) → IsPrintedTo a c later' whole
piece_more a b c n later later' whole is i next =
    (i.0 ++ take n later, appends_more a b c _ _ i.1 next, append_assoc i.0 (take n later) later' ∙ ap (λ xs. i.0 ++ (take n later ++ xs)) is ∙ ap (λ xs. i.0 ++ xs) (take-append-drop n later) ∙ i.2)

-- a piece of nothing is written
pub piece_none : (a b c : Option (List ℕ)) (later whole : List ℕ) → IsPrintedTo a b later whole → Appends b c [] → IsPrintedTo a c later whole
piece_none a b c later whole i next =
    (i.0, subst (λ (xs : List ℕ). Appends a c xs) (append-nil i.0) (appends_more a b c _ _ i.1 next), i.2)

-- one more step
pub step_more : (a b c d : Option (List ℕ)) (step : ℕ) (replies : List (Reply ℕ)) (reply : Reply ℕ) (drained cleared : List ℕ) (settled : List (Settlement ℕ)) (whole : List ℕ) → drop step replies ≡ reply ∷ drop (step + 1) replies → IsPrintedTo a b (replies_text step (drop step replies) drained cleared settled) whole → Appends b c (line (reply_words reply (counted reply drained cleared))) → Appends c d (settlements_text (take (count_settled step settled) settled)) → IsPrintedTo a d (replies_text (step + 1) (drop (step + 1) replies) (drop (drained_count reply) drained) (drop (cleared_count reply) cleared) (drop (count_settled step settled) settled)) whole
step_more a b c d step replies reply drained cleared settled whole first before next last =
    let own = line (reply_words reply (counted reply drained cleared)) in
    let ends = settlements_text (take (count_settled step settled) settled) in
    let later = replies_text (step + 1) (drop (step + 1) replies) (drop (drained_count reply) drained) (drop (cleared_count reply) cleared) (drop (count_settled step settled) settled) in
    let text : before.0 ++ (own ++ (ends ++ later)) ≡ whole = subst (λ (rs : List (Reply ℕ)). before.0 ++ replies_text step rs drained cleared settled ≡ whole) first before.2 in
    ((before.0 ++ own) ++ ends, appends_more a c d _ _ (appends_more a b c _ _ before.1 next) last, (append_assoc (before.0 ++ own) ends later ∙ append_assoc before.0 own (ends ++ later)) ∙ text)

-- one more step, as the code cuts the messages and the settlements
pub step_cut : (a b c d : Option (List ℕ)) (step : ℕ) (replies : List (Reply ℕ)) (e : Reply ℕ) (drained drained' cleared cleared' own : List ℕ) (settled ends settled' : List (Settlement ℕ)) (whole : List ℕ) (n : ℕ) → step < length replies → own ≡ counted (get_or replies step e) drained cleared → drained' ≡ drop (drained_count (get_or replies step e)) drained → cleared' ≡ drop (cleared_count (get_or replies step e)) cleared → n ≡ count_settled step settled → ends ≡ take n settled → settled' ≡ drop n settled → IsPrintedTo a b (replies_text step (drop step replies) drained cleared settled) whole → Appends b c (line (reply_words (get_or replies step e) own)) → Appends c d (settlements_text ends) → IsPrintedTo a d (replies_text (step + 1) (drop (step + 1) replies) drained' cleared' settled') whole
step_cut a b c d step replies e drained drained' cleared cleared' own settled ends settled' whole n inside own-is drained'-is cleared'-is n-is ends-is settled'-is before next last =
    let reply = get_or replies step e in
    let front' : ends ≡ take (count_settled step settled) settled = ends-is ∙ ap (λ i. take i settled) n-is in
    let back' : settled' ≡ drop (count_settled step settled) settled = settled'-is ∙ ap (λ i. drop i settled) n-is in
    let next' = subst (λ (xs : List ℕ). Appends b c (line (reply_words reply xs))) own-is next in
    let last' = subst (λ (xs : List (Settlement ℕ)). Appends c d (settlements_text xs)) front' last in
    rw (drained'-is, cleared'-is, back') (step_more a b c d step replies reply drained cleared settled whole (subst (λ (i : ℕ). drop step replies ≡ reply ∷ drop i replies) (sym (add-one step)) (drop-cons replies step e inside)) before next' last')
