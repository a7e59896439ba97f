-- One line after another.
use Rattle.kanal_script.proofs.Common.{◌≡◌, ℕ, ◌<◌, List, [], ◌∷◌, ◌++◌, length, ap, append_assoc, arith, inl, inr, sym, ◌∙◌, Option, refl, length-append, append-nil, subst, ◌+◌, Event, append_cancel_right, IsReadBefore, EndsLine, EndsWord, line, capacity_words, event_words, events_text, script_text, IsReadTo}

-- one more event is one more line
pub events_text-push : (events : List (Event ℕ)) (event : Event ℕ) → events_text (events ++ (event ∷ [])) ≡ events_text events ++ line (event_words event)
events_text-push [] event = simp append-nil
events_text-push (first ∷ events) event = simp (events_text-push events event, append_assoc)

-- what is read, and then a line
pub read_more : (bytes text rest words rest' : List ℕ) → 0 < length rest → IsReadTo bytes text rest → IsReadTo rest words rest' → IsReadTo bytes (text ++ words) rest'
read_more bytes text rest words rest' more (inl e) (inl f) = inl (rw (e, f) (simp append_assoc))
read_more bytes text rest words rest' more (inl e) (inr f) = inr ((rw (e, append_assoc) (ap (λ xs. text ++ xs) f.0)), f.1)
read_more bytes text rest words rest' more (inr e) f = absurd (omega (arith, ap length e.1))

-- a script that is read so far, and then the line of one more event
pub event_more : (bytes : List ℕ) (capacity : Option ℕ) (events events' : List (Event ℕ)) (event : Event ℕ) (rest rest' : List ℕ) → 0 < length rest → IsReadTo bytes (script_text capacity events) rest → IsReadTo rest (line (event_words event)) rest' → events' ≡ events ++ (event ∷ []) → IsReadTo bytes (script_text capacity events') rest'
event_more bytes capacity events events' event rest rest' more before next e =
    let text : script_text capacity events ++ line (event_words event) ≡ script_text capacity events' =
    rw (append_assoc (line (capacity_words capacity)) (events_text events) (line (event_words event)), e, events_text-push events event) refl in
    subst (λ (xs : List ℕ). IsReadTo bytes xs rest') text (read_more bytes (script_text capacity events) rest (line (event_words event)) rest' more before next)

-- one more event is one more line, while bytes are left
pub number_more : (events events' : List (Event ℕ)) (event : Event ℕ) (rest rest' : List ℕ) (number number' : ℕ) → 0 < length rest → events' ≡ events ++ (event ∷ []) → (0 < length rest → number ≡ length events + 2) → (0 < length rest' → number' ≡ number + 1) → 0 < length rest' → number' ≡ length events' + 2
number_more events events' event rest rest' number number' more e before next more' =
    omega (arith, ap length e, length-append events (event ∷ []), before more, next more')

-- what is told of a line where bytes are left
pub read_before : (bytes : List ℕ) (capacity : Option ℕ) (events : List (Event ℕ)) (rest : List ℕ) (number : ℕ) → 0 < length rest → IsReadTo bytes (script_text capacity events) rest → (0 < length rest → number ≡ length events + 2) → IsReadBefore bytes number
read_before bytes capacity events rest number more (inl e) n = inr (capacity, events, rest, e, n more)
read_before bytes capacity events rest number more (inr e) n = absurd (omega (arith, ap length e.1))

-- a line that the bytes begin with: its words, and then the line's end
pub line_end : (bytes words rest : List ℕ) → IsReadTo bytes (line words) rest → (s : List ℕ) × (bytes ≡ words ++ s) × EndsLine s
line_end bytes words rest (inl e) = (10 ∷ rest, e ∙ append_assoc words (10 ∷ []) rest, refl)
line_end bytes words rest (inr e) = ([], append_cancel_right bytes words (10 ∷ []) e.0 ∙ sym (append-nil words), tt)

-- where a line ends a word ends
pub line_word : (s : List ℕ) → EndsLine s → EndsWord s
line_word [] end = tt
line_word (b ∷ bs) end = inr end
