-- Two readings of the same bytes go along with each other, line by line.
use Rattle.kanal_script.proofs.Common.{◌≡◌, ◌≢◌, ◌⊎◌, ℕ, ◌+◌, ◌<◌, List, [], ◌∷◌, ◌++◌, length, get_or, drop, Option, Some, None, refl, sym, ap, ◌∙◌, inl, inr, append_assoc, append-nil, codes, decimal, arith, cases_lt, Event, Send, TrySend, Withdraw, Asks, IsReadNoFurther, line, capacity_words, side_word, ask_word, event_words, events_text, script_text, IsReadTo, EventFits, EventsFit, FitsWord, IsWord}
use Rattle.kanal_events.specs.declared.event.Side.{Side}
use Rattle.kanal_events.specs.declared.event.Side.TheVariants.{Tx, Rx}
use Rattle.kanal_events.specs.declared.event.Ask.{Ask}
use Rattle.kanal_events.specs.declared.event.Ask.TheVariants.{IsBounded}
use Rattle.kanal_script.proofs.Words.{cap_word, decimal_word, letters}
use Rattle.kanal_script.proofs.EventWords.{name, name_word}

-- no line feed is among the bytes
abbrev NoFeed : List ℕ → Type 0
NoFeed [] = Unit {0}
NoFeed (b ∷ bs) = (b ≢ 10) × NoFeed bs

word_no_feed : (w : List ℕ) → IsWord w → NoFeed w
word_no_feed [] word = tt
word_no_feed (b ∷ bs) word = (word.2, word_no_feed bs word.3)

no_feed_append : (v w : List ℕ) → NoFeed v → NoFeed w → NoFeed (v ++ w)
no_feed_append [] w n m = m
no_feed_append (b ∷ v) w n m = (n.0, no_feed_append v w n.1 m)

-- two words with a space between them
spaced : (v w : List ℕ) → IsWord v → NoFeed w → NoFeed (v ++ (32 ∷ w))
spaced v w first next = no_feed_append v (32 ∷ w) (word_no_feed v first) ((λ e. omega (arith, e)), next)

side_is_word : (side : Side) → IsWord (side_word side)
side_is_word Tx = letters (codes "tx") refl
side_is_word Rx = letters (codes "rx") refl

ask_is_word : (ask : Ask) → IsWord (ask_word ask)
ask_is_word IsBounded = letters (codes "is_bounded") refl
ask_is_word ask = letters (ask_word ask) refl

event_no_feed : (event : Event ℕ) → EventFits event → NoFeed (event_words event)
event_no_feed (Send n) fits = spaced (codes "send") (decimal n) (name_word (Send n)) (word_no_feed (decimal n) (decimal_word n fits))
event_no_feed (TrySend n) fits = spaced (codes "try_send") (decimal n) (name_word (TrySend n)) (word_no_feed (decimal n) (decimal_word n fits))
event_no_feed (Withdraw n) fits = spaced (codes "withdraw") (decimal n) (name_word (Withdraw n)) (word_no_feed (decimal n) (decimal_word n fits))
event_no_feed (Asks side ask) fits = spaced (codes "ask") (side_word side ++ (32 ∷ ask_word ask)) (name_word (Asks side ask)) (spaced (side_word side) (ask_word ask) (side_is_word side) (word_no_feed (ask_word ask) (ask_is_word ask)))
event_no_feed event fits = word_no_feed (name event) (name_word event)

capacity_no_feed : (capacity : Option ℕ) → FitsWord capacity → NoFeed (capacity_words capacity)
capacity_no_feed None fits = spaced (codes "cap") (codes "unbounded") cap_word (word_no_feed (codes "unbounded") (letters (codes "unbounded") refl))
capacity_no_feed (Some n) fits = spaced (codes "cap") (decimal n) cap_word (word_no_feed (decimal n) (decimal_word n fits))

-- what stands behind the first line feed
feed_cut : (v w a b : List ℕ) → NoFeed v → NoFeed w → v ++ (10 ∷ a) ≡ w ++ (10 ∷ b) → a ≡ b
feed_cut [] [] a b n m e = ap (λ xs. drop 1 xs) e
feed_cut [] (y ∷ w) a b n m e = absurd (m.0 (sym (ap (λ xs. get_or xs 0 0) e)))
feed_cut (x ∷ v) [] a b n m e = absurd (n.0 (ap (λ xs. get_or xs 0 0) e))
feed_cut (x ∷ v) (y ∷ w) a b n m e = feed_cut v w a b n.1 m.1 (ap (λ xs. drop 1 xs) e)

-- what stands behind the first line
line_cut : (v w a b : List ℕ) → NoFeed v → NoFeed w → line v ++ a ≡ line w ++ b → a ≡ b
line_cut v w a b n m e = feed_cut v w a b n m (sym (append_assoc v (10 ∷ []) a) ∙ e ∙ append_assoc w (10 ∷ []) b)

-- of two readings, the one with more events goes on with one of them
events_along : (es fs : List (Event ℕ)) (r s : List ℕ) → EventsFit es → EventsFit fs → events_text es ++ r ≡ events_text fs ++ s → length es < length fs
    → (event : Event ℕ) × (rest : List ℕ) × EventFits event × (r ≡ line (event_words event) ++ rest)
events_along [] [] r s n m e more = absurd (omega (arith, more))
events_along [] (f ∷ fs) r s n m e more = (f, events_text fs ++ s, m.0, e ∙ append_assoc (line (event_words f)) (events_text fs) s)
events_along (d ∷ es) [] r s n m e more = absurd (omega (arith, more))
events_along (d ∷ es) (f ∷ fs) r s n m e more =
    let rest = line_cut (event_words d) (event_words f) (events_text es ++ r) (events_text fs ++ s) (event_no_feed d n.0) (event_no_feed f m.0)
    (sym (append_assoc (line (event_words d)) (events_text es) r) ∙ e ∙ append_assoc (line (event_words f)) (events_text fs) s) in
    events_along es fs r s n.1 m.1 rest (omega (arith, more))

scripts_along : (c d : Option ℕ) (es fs : List (Event ℕ)) (r s : List ℕ) → FitsWord c → FitsWord d → EventsFit es → EventsFit fs → script_text c es ++ r ≡ script_text d fs ++ s → length es < length fs
    → (event : Event ℕ) × (rest : List ℕ) × EventFits event × (r ≡ line (event_words event) ++ rest)
scripts_along c d es fs r s p q n m e more =
    events_along es fs r s n m
    (line_cut (capacity_words c) (capacity_words d) (events_text es ++ r) (events_text fs ++ s) (capacity_no_feed c p) (capacity_no_feed d q)
    (sym (append_assoc (line (capacity_words c)) (events_text es) r) ∙ e ∙ append_assoc (line (capacity_words d)) (events_text fs) s))
    more

-- the bytes and a line feed begin with w: so do the bytes, or all of it is w
begins : (w r rest : List ℕ) → r ++ (10 ∷ []) ≡ w ++ rest → ((later : List ℕ) × (r ≡ w ++ later)) ⊎ (r ++ (10 ∷ []) ≡ w)
begins [] r rest e = inl (r, refl)
begins (x ∷ []) [] rest e = inr (ap (λ xs. get_or xs 0 0 ∷ []) e)
begins (x ∷ y ∷ w) [] rest e = absurd (omega (arith, ap length e))
begins (x ∷ w) (z ∷ r) rest e =
    let same : z ≡ x = ap (λ xs. get_or xs 0 0) e in
    elim (begins w r rest (ap (λ xs. drop 1 xs) e)) [
      | inl h ↦ inl (h.0, λ i. same i ∷ h.1 i)
      | inr h ↦ inr (λ i. same i ∷ h i)
    ]

-- a line that the bytes and a line feed begin with is read from the bytes
line_read : (r words rest : List ℕ) → r ++ (10 ∷ []) ≡ line words ++ rest → (later : List ℕ) × IsReadTo r (line words) later
line_read r words rest e =
    elim (begins (line words) r rest e) [
      | inl h ↦ (h.0, inl h.1)
      | inr h ↦ ([], inr (h, refl))
    ]

-- no reading goes further than to the line that can't be read
pub goes_no_further : (bytes : List ℕ) (c : Option ℕ) (es : List (Event ℕ)) (r : List ℕ) (number : ℕ) → FitsWord c → EventsFit es → 0 < length r → IsReadTo bytes (script_text c es) r → number ≡ length es + 2
    → ((event : Event ℕ) (rest : List ℕ) → EventFits event → IsReadTo r (line (event_words event)) rest → ⊥) → IsReadNoFurther bytes number
goes_no_further bytes c es r number p n left (inr e) is none = absurd (omega (arith, left, ap length e.1))
goes_no_further bytes c es r number p n left (inl e) is none = λ d fs s q m to.
    elim (cases_lt (length fs + 1) number) [
      | inl h ↦ h
      | inr h ↦ absurd (further d fs s q m to (omega (arith, h, is)))
    ]
  where
    further : (d : Option ℕ) (fs : List (Event ℕ)) (s : List ℕ) → FitsWord d → EventsFit fs → IsReadTo bytes (script_text d fs) s → length es < length fs → ⊥
    further d fs s q m (inl f) more =
        let on = scripts_along c d es fs r s p q n m (sym e ∙ f) more in
        none on.0 on.1 on.2 (inl on.3)
    further d fs s q m (inr f) more =
        let on = scripts_along c d es fs (r ++ (10 ∷ [])) [] p q n m (sym (append_assoc (script_text c es) r (10 ∷ [])) ∙ sym (ap line e) ∙ f.0 ∙ sym (append-nil (script_text d fs))) more in
        let read = line_read r (event_words on.0) on.1 on.3 in
        none on.0 read.0 on.2 read.1

-- and none begins where the first line can't be read
pub begins_not : (bytes : List ℕ) → ((capacity : Option ℕ) (rest : List ℕ) → FitsWord capacity → IsReadTo bytes (line (capacity_words capacity)) rest → ⊥) → IsReadNoFurther bytes 1
begins_not bytes none = λ d fs s q m to. absurd (at_all d fs s q to)
  where
    at_all : (d : Option ℕ) (fs : List (Event ℕ)) (s : List ℕ) → FitsWord d → IsReadTo bytes (script_text d fs) s → ⊥
    at_all d fs s q (inl f) = none d (events_text fs ++ s) q (inl (f ∙ append_assoc (line (capacity_words d)) (events_text fs) s))
    at_all d fs s q (inr f) = let read = line_read bytes (capacity_words d) (events_text fs) f.0 in none d read.0 q read.1

-- one more event that fits
pub fit_more : (events : List (Event ℕ)) (event : Event ℕ) → EventsFit events → EventFits event → EventsFit (events ++ (event ∷ []))
fit_more [] event all fits = (fits, tt)
fit_more (e ∷ events) event all fits = (all.0, fit_more events event all.1 fits)
