-- How the tale of a stage goes on, and what the passes of a channel between two stages tell together.
use Rattle.kanal_exchange.proofs.Common.{◌≡◌, ◌+◌, ℕ, List, [], ◌∷◌, ◌++◌, length, map, take, Option, refl, sym, ap, ◌∙◌, subst, arith, length-append, Known, Call, Handed, StagesMade, Staged, HasExchanged}
use Rattle.kanal_exchange.proofs.Telling.{tells_none, tells_more, took-all}

map-more : {A B : Type 0} (f : A → B) (xs : List A) (x : A) → map f (xs ++ x ∷ []) ≡ map f xs ++ f x ∷ []
map-more f [] x = refl
map-more f (y ∷ xs) x = ap (λ ys. f y ∷ ys) (map-more f xs x)

map-length : {A B : Type 0} (f : A → B) (xs : List A) → length (map f xs) ≡ length xs
map-length f [] = refl
map-length f (x ∷ xs) = let r = map-length f xs in omega arith

module _ {A B : Type 0} (value : A → B) where
  -- before the first message
  pub staged_none : (hears : Known (Call A)) (tells : Known (Call B)) → hears.own ≡ [] → tells.own ≡ [] → Staged value 0 hears tells
  staged_none hears tells fresh clean = record { came = []; all = refl; heard = tells_none hears fresh; told = tells_none tells clean }

  -- one message more, and the shares stay
  pub staged_more : (before behind : Option ℕ) (count : ℕ) (hears hears' : Known (Call A)) (tells tells' : Known (Call B)) → Staged value count hears tells → Handed before behind value hears hears' tells tells'
      → Staged value (count + 1) hears' tells' × (hears'.share ≡ hears.share) × (tells'.share ≡ tells.share)
  staged_more before behind count hears hears' tells tells' s h =
      let heard = tells_more before [] s.came [] (h.message ∷ []) hears hears' s.heard h.came in
      let told = tells_more behind (map value s.came) [] (value h.message ∷ []) [] tells tells' s.told h.went in (
        record {
          came = s.came ++ h.message ∷ [];
          all = length-append s.came (h.message ∷ []) ∙ omega (arith, s.all);
          heard = heard.0;
          told = subst (λ xs. HasExchanged xs [] tells') (sym (map-more value s.came h.message)) told.0;
        },
        heard.1,
        told.1,
      )

  -- what the stages behind made is what they make of all that the stage made
  pub staged_made : {C : Type 0} (all : List B → List C) (count : ℕ) (hears : Known (Call A)) (tells reads : Known (Call B)) (made : List C) → Staged value count hears tells → StagesMade all count made reads
      → ((put got : List B) → HasExchanged put [] tells → HasExchanged [] got reads → got ≡ take (length got) put) → StagesMade (λ messages. all (map value messages)) count made hears
  staged_made all count hears tells reads made s m overseen =
      let same : m.came ≡ map value s.came =
      took-all m.came (map value s.came) (overseen (map value s.came) m.came s.told m.heard) (m.whole ∙ (sym s.all ∙ sym (map-length value s.came))) in
      record { came = s.came; whole = s.all; heard = s.heard; is = m.is ∙ ap all same }

-- where nothing is behind, what was received is all that came
pub made_none : {B : Type 0} (count : ℕ) (reads : Known (Call B)) (got : List B) → HasExchanged [] got reads → length got ≡ count → StagesMade (λ messages. messages) count got reads
made_none count reads got heard even = record { came = got; whole = even; heard = heard; is = refl }

-- what the stages made is what they make of all that was sent
pub made_all : {A B : Type 0} (all : List A → List B) (count : ℕ) (sender receiver : Known (Call A)) (put : List A) (made : List B) → HasExchanged put [] sender → StagesMade all count made receiver
    → ((put got : List A) → HasExchanged put [] sender → HasExchanged [] got receiver → got ≡ take (length got) put) → count ≡ length put → made ≡ all put
made_all all count sender receiver put made told m overseen even = m.is ∙ ap all (took-all m.came put (overseen put m.came told m.heard) (m.whole ∙ even))
