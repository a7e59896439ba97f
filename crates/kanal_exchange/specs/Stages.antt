-- What a stage does, and what the stages behind a channel make of its messages.
use Rattle.std.specs.Prelude.{◌≡◌, ℕ, List, [], ◌∷◌, length, map, Option}
use Rattle.kanal_log.specs.Views.{Known}
use Rattle.kanal_state.specs.declared.call.Call.{Call}
use Rattle.kanal_one_history.specs.Puts.{Exchanges}
use Rattle.kanal_exchange.specs.Tales.{HasExchanged}

-- what one stage makes of the messages, and then another of that
abbrev pub by_two : {A B C : Type 0} → (A → B) → (B → C) → List A → List C
by_two first second messages = map second (map first messages)

module _ {A B : Type 0} where
  -- one message came by the first pass, and what the stage makes of it went on by the second
  pub record Handed (before behind : Option ℕ) (value : A → B) (old_hears hears : Known (Call A)) (old_tells tells : Known (Call B)) : Type 0 where
    pub message : A
    pub came : Exchanges before old_hears hears [] (message ∷ [])
    pub went : Exchanges behind old_tells tells (value message ∷ []) []

  -- so many messages came by the first pass, and what the stage makes of each went on by the second, in order
  pub record Staged (value : A → B) (count : ℕ) (hears : Known (Call A)) (tells : Known (Call B)) : Type 0 where
    pub came : List A
    pub all : length came ≡ count
    pub heard : HasExchanged [] came hears
    pub told : HasExchanged (map value came) [] tells

  -- so many messages came by this pass, and this is what the stages made of all of them
  pub record StagesMade (all : List A → List B) (count : ℕ) (made : List B) (hears : Known (Call A)) : Type 0 where
    pub came : List A
    pub whole : length came ≡ count
    pub heard : HasExchanged [] came hears
    pub is : made ≡ all came
