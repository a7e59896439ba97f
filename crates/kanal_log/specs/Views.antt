-- What a seat of a log knows, and the rule of all views.
use Rattle.std.specs.Prelude.{◌≡◌, ◌+◌, ◌<◌, ◌≤◌, ℕ, ◌⊎◌, true, false, List, [], ◌∷◌, ◌++◌, length, drop, All, HoldsAt}
use mathlib.Core.Option.{some}
use mathlib.Core.List.{IsPrefix}
use lib.ListN.{get_elem?}
use Rattle.atomic_table.specs.Table.{Me}
use Rattle.atomic_table.specs.Seated.{TableId}
use Rattle.kanal_log.specs.declared.rule.Share.{Share}
use Rattle.kanal_log.specs.declared.rule.LogView.{LogView}
use Rattle.kanal_log.specs.Shares.{nothing, doubled, both, HasShare, IsWhole, worth}

-- the name of no table
abbrev pub no_table : TableId
no_table = record { words = 0; slots = 0; views_name = 0; atom = 0; block = 0; offset = 0; slot_names = [] }

-- the place is among these
abbrev pub IsAmong : ℕ → List ℕ → Type 0
IsAmong k [] = ⊥
IsAmong k (x ∷ xs) = (k ≡ x) ⊎ IsAmong k xs

-- no place is among both
abbrev pub AreDisjoint : List ℕ → List ℕ → Type 0
AreDisjoint xs ys = (k : ℕ) → IsAmong k xs → IsAmong k ys → ⊥

-- no place stands twice among these
abbrev pub AreDistinct : List ℕ → Type 0
AreDistinct [] = Unit {0}
AreDistinct (x ∷ xs) = (IsAmong x xs → ⊥) × AreDistinct xs

-- each place is that of one of the first n entries
abbrev pub AreBelow : ℕ → List ℕ → Type 0
AreBelow n xs = (k : ℕ) → IsAmong k xs → k < n

-- what the holder of a reader knows: what it has seen, the places of its own entries, the latest first, and its share of the right to add
pub record Known (E : Type 0) : Type 0 where
  pub log : List E
  pub own : List ℕ
  pub share : Share

-- what a call adds to the history: nothing, an entry that is its reader's own, or an unowned one
pub data Addition (E : Type 0) : Type 0 where
  no_entry : Addition E
  own_entry : E → Addition E
  unowned_entry : E → Addition E

module _ {E : Type 0} where
  -- it knows so much
  abbrev pub known : List E → List ℕ → Share → Known E
  known log own share = record { log = log; own = own; share = share }

  -- each entry that was seen is own or unowned, and the own places are places of what was seen, each once
  pub record OwnsAllBut (unowned : E → Type 0) (log : List E) (own : List ℕ) : Type 0 where
    pub all : (k : ℕ) → k < length log → IsAmong k own ⊎ HoldsAt unowned log k
    pub below : AreBelow (length log) own
    pub distinct : AreDistinct own

  -- what stands in the history behind what was seen is unowned
  abbrev pub IsUnownedBehind : (E → Type 0) → List E → List E → Type 0
  IsUnownedBehind unowned seen log = All unowned (drop (length seen) log)

  -- the entries that are added
  abbrev pub entries : Addition E → List E
  entries no_entry = []
  entries (own_entry e) = e ∷ []
  entries (unowned_entry e) = e ∷ []

  -- the place that the reader has of what is added behind a history, if there is one
  abbrev pub place_of : List E → Addition E → List ℕ
  place_of log no_entry = []
  place_of log (own_entry e) = length log ∷ []
  place_of log (unowned_entry e) = []

  -- who has this share may add it: an entry of its own asks for a share, and another one has to be unowned
  abbrev pub MayAdd : (E → Type 0) → Share → Addition E → Type 0
  MayAdd unowned share no_entry = Unit {0}
  MayAdd unowned share (own_entry e) = HasShare share
  MayAdd unowned share (unowned_entry e) = unowned e

  -- the view of the seat that knows the whole history, with this share
  abbrev pub writer_view_with : List E → Share → LogView E
  writer_view_with log share = record { keeps = true; log = log; own = []; share = share; other = []; others_own = []; others_share = nothing }

  -- the view of the seat that knows the whole history
  abbrev pub writer_view : List E → LogView E
  writer_view log = writer_view_with log nothing

  -- the view of a seat that has seen this much, owns these places and has this share
  abbrev pub reader_view : List E → List ℕ → Share → LogView E
  reader_view log own share = record { keeps = false; log = log; own = own; share = share; other = []; others_own = []; others_share = nothing }

  -- the first view, with the second put into it
  abbrev pub beside : LogView E → LogView E → LogView E
  beside v w = record { keeps = v.keeps; log = v.log; own = v.own; share = v.share; other = w.log; others_own = w.own; others_share = w.share }

  -- the view without what was put into it
  abbrev pub alone : LogView E → LogView E
  alone v = record { keeps = v.keeps; log = v.log; own = v.own; share = v.share; other = []; others_own = []; others_share = nothing }

  -- the view with this share
  abbrev pub with_share : LogView E → Share → LogView E
  with_share v share = record { keeps = v.keeps; log = v.log; own = v.own; share = share; other = v.other; others_own = v.others_own; others_share = v.others_share }

  -- the places that a view has, those that were put into it and its own
  abbrev pub all_own : LogView E → List ℕ
  all_own v = v.others_own ++ v.own

  -- what a view's shares are worth, the one that was put into it and its own
  abbrev pub all_worth : ℕ → LogView E → ℕ
  all_worth n v = worth n v.others_share + worth n v.share

  -- what the shares of all these views are worth
  abbrev pub worth_of : ℕ → List (LogView E) → ℕ
  worth_of n [] = 0
  worth_of n (v ∷ vs) = all_worth n v + worth_of n vs

  -- a view's shares come of n halvings at most
  abbrev pub IsHalvedUpTo : ℕ → LogView E → Type 0
  IsHalvedUpTo n v = (v.others_share.halvings ≤ n) × (v.share.halvings ≤ n)

  -- the shares of each of these views come of n halvings at most
  abbrev pub AreHalvedUpTo : ℕ → List (LogView E) → Type 0
  AreHalvedUpTo n [] = Unit {0}
  AreHalvedUpTo n (v ∷ vs) = IsHalvedUpTo n v × AreHalvedUpTo n vs

  -- all shares of these views come of n halvings at most, and together they are no more than all of the right
  pub record AreShared (n : ℕ) (views : List (LogView E)) : Type 0 where
    pub halved : AreHalvedUpTo n views
    pub most : worth_of n views ≤ doubled n 1

  -- one of the two begins with the other
  abbrev pub OneBegins : List E → List E → Type 0
  OneBegins xs ys = IsPrefix xs ys ⊎ IsPrefix ys xs

  -- what the rule says of one view: it has seen a beginning, its places are distinct ones of that, and who has no share has no place
  pub record ViewFits (seat : ℕ) (log : List E) (by : ℕ) (v : LogView E) : Type 0 where
    pub keeps : v.keeps ≡ true → (by ≡ seat) × (v.log ≡ log)
    pub seen : IsPrefix v.log log
    pub shown : IsPrefix v.other log
    pub below : AreBelow (length v.log) v.own
    pub others_below : AreBelow (length v.other) v.others_own
    pub distinct : AreDistinct (all_own v)
    pub idle : v.share.count ≡ 0 → v.own ≡ []
    pub others_idle : v.others_share.count ≡ 0 → v.others_own ≡ []

  -- no place is of two seats
  abbrev pub HaveOneOwner : List (LogView E) → Type 0
  HaveOneOwner views =
      (i j : ℕ) (v w : LogView E) → get_elem? views i ≡ some v → get_elem? views j ≡ some w → (k : ℕ) → IsAmong k (all_own v) → IsAmong k (all_own w) → i ≡ j

  -- the place is of some seat
  pub record IsOwned (views : List (LogView E)) (k : ℕ) : Type 0 where
    pub by : ℕ
    pub view : LogView E
    pub stands : get_elem? views by ≡ some view
    pub mine : IsAmong k (all_own view)

  -- each view fits one history, each of whose places is of one seat or unowned, and all shares together are no more than all of the right
  pub record ViewsAgree (unowned : E → Type 0) (views : List (LogView E)) : Type 0 where
    pub seat : ℕ
    pub log : List E
    pub scale : ℕ
    pub fits : (by : ℕ) (v : LogView E) → get_elem? views by ≡ some v → ViewFits seat log by v
    pub owners : HaveOneOwner views
    pub owned : (k : ℕ) → k < length log → IsOwned views k ⊎ HoldsAt unowned log k
    pub shares : AreShared scale views

  module _ {S : Type 0} where
    -- the writer adds behind all that was there; who was put into it had seen a beginning, sees all, and owns what it added as its own
    pub record Extended (unowned : E → Type 0) (more : Addition E) (v w : Me S (LogView E)) : Type 0 where
      pub view : w ≡ (
        record {
          keeps = true;
          log = v.0.log ++ entries more;
          own = v.0.own;
          share = v.0.share;
          other = v.0.log ++ entries more;
          others_own = place_of v.0.log more ++ v.0.others_own;
          others_share = v.0.others_share;
        },
        v.1,
      )
      pub seen : IsPrefix v.0.other v.0.log
      -- where it has all of the right, what it had not seen is unowned
      pub only : IsWhole v.0.others_share → IsUnownedBehind unowned v.0.other v.0.log

    -- how what two readers have seen stands to each other, and that they share no place
    pub record Compared (v w : Me S (LogView E)) : Type 0 where
      pub view : w ≡ (v.0, v.1)
      pub one : OneBegins v.0.log v.0.other
      pub apart : AreDisjoint v.0.own v.0.others_own
      pub each : AreDistinct v.0.own × AreDistinct v.0.others_own

    -- a reader goes on to what was put into it, where that is longer, and has the places and the shares of both
    pub record Learned (v w : Me S (LogView E)) : Type 0 where
      pub view : w ≡ (reader_view w.0.log (all_own v.0) (both v.0.others_share v.0.share), v.1)
      pub this : IsPrefix v.0.log w.0.log
      pub that : IsPrefix v.0.other w.0.log
      pub one : (w.0.log ≡ v.0.log) ⊎ (w.0.log ≡ v.0.other)

    -- a reader that has all of the right owns each entry that it has seen, but for the unowned ones
    pub record Checked (unowned : E → Type 0) (v w : Me S (LogView E)) : Type 0 where
      pub view : w ≡ (v.0, v.1)
      pub each : OwnsAllBut unowned v.0.log v.0.own
