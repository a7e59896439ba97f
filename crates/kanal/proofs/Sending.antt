-- What a task sends of a stream: what polls sent before comes before what is sent later.
use Rattle.std.proofs.Common.{◌≡◌, ◌∙◌, true, false, List, [], ◌∷◌, ◌++◌, Option, Some, None, MatchOption, Result, Ok, Err, option_map, refl, sym, subst, append_assoc}
use Rattle.std.specs.Option.{IfSome, IsSomeAnd}
use Rattle.std.specs.Prelude.{is_some}
use Rattle.futures.specs.Runs.{After, Leads, Runs, Within}
use Rattle.kanal_channel.proofs.Batching.{folds_on}
use Rattle.kanal_core.specs.declared.error.SendError.{SendError}
use Rattle.kanal_core.specs.declared.error.SendError.TheVariants.{Finished}
use Rattle.kanal_state.specs.Handles.{Sends}
use Rattle.kanal_state.specs.HistoryRelations.{HistoryRelations}
use Rattle.kanal.specs.declared.send_all.SendStage.{SendStage}
use Rattle.kanal.specs.Sends.{Behind, ComesFrom, LeftBy, SendsAll, SendsAllTo, SendsComing, SendsSoFar, SendsOn, SendsSome, StillGives, flattened, pass_at, stage_begun, stage_idle}

module _ {T : Type 0} where
  leads_first : (message : T) (before after : Runs T) → before [] (Some message) → After before message after → Within before (Leads (λ item. item ≡ message) after)
  leads_first message before after first rest [] None came = absurd came
  leads_first message before after first rest [] (Some x) came = subst (λ y. before [] (Some y)) (sym came) first
  leads_first message before after first rest (x ∷ xs) last came = subst (λ y. before (y ∷ xs) last) (sym came.0) (rest xs last came.1)

  -- one more came
  pub behind_more : (came : List T) (message : T) (before after : Runs T) → before [] (Some message) → After before message after → Within (Behind came before) (Behind (came ++ message ∷ []) after)
  behind_more [] message before after first rest items last given = leads_first message before after first rest items last given
  behind_more (m ∷ came) message before after first rest [] last given = given
  behind_more (m ∷ came) message before after first rest (x ∷ xs) last given = (given.0, behind_more came message before after first rest xs last given.1)

  -- what comes behind may come to less
  pub behind_within : (came : List T) (before after : Runs T) → Within before after → Within (Behind came before) (Behind came after)
  behind_within [] before after within items last given = within items last given
  behind_within (m ∷ came) before after within [] last given = given
  behind_within (m ∷ came) before after within (x ∷ xs) last given = (given.0, behind_within came before after within xs last given.1)

  -- what was sent came before what is left
  pub behind_sent : (sent left : List T) (rest : Runs T) (later : List T) (last : Option T) → Behind left rest later last → Behind (sent ++ left) rest (sent ++ later) last
  behind_sent [] left rest later last given = given
  behind_sent (m ∷ sent) left rest later last given = (refl, behind_sent sent left rest later last given)

-- a stream that has ended gives no more
pub gives_none : {S T : Type 0} (yields : S → Runs T) (stream : Option S) → is_some stream ≡ false → StillGives yields stream [] None
gives_none yields None over = (refl, refl)
gives_none yields (Some stream) over = absurd (cc)

module _ {T P : Type 0} (w : HistoryRelations T P) where
  goes_on : (before middle after : Runs T) (old mid new : P) → SendsOn w before old middle mid → SendsOn w middle mid after new → SendsOn w before old after new
  goes_on before middle after old mid new went step = (
    went.0 ++ step.0,
    folds_on (λ p m q. Sends w p q m (Ok tt)) old mid new went.0 step.0 went.1 step.1,
    λ later last came. subst (λ xs. before xs last) (sym (append_assoc went.0 step.0 later)) (went.2 (step.0 ++ later) last (step.2 later last came)),
  )

  comes_on : (before after : Runs T) (old mid new : P) (answer : Result (Unit {0}) SendError) → SendsOn w before old after mid → SendsComing w after mid new answer → SendsComing w before old new answer
  comes_on before after old mid new (Ok done) went came = (went.0 ++ came.0, went.2 came.0 None came.1, folds_on (λ p m q. Sends w p q m (Ok tt)) old mid new went.0 came.0 went.1 came.2)
  comes_on before after old mid new (Err error) went came =
      (went.0 ++ came.0, came.1, came.2, went.2 came.0 (Some came.1) came.3, folds_on (λ p m q. Sends w p q m (Ok tt)) old mid came.2 went.0 came.0 went.1 came.4, came.5)

  -- from where a task was to where it is, by options of passes
  abbrev pub Went : Option P → Runs T → Option P → Runs T → Type 0
  Went first before next after = IfSome first (λ old. IsSomeAnd next (λ new. SendsOn w before old after new))

  abbrev pub Ended : Option P → Runs T → Option P → Result (Unit {0}) SendError → Type 0
  Ended first coming kept answer = IfSome first (λ old. IsSomeAnd kept (λ new. SendsComing w coming old new answer))

  abbrev pub Gives : Option P → Runs T → Result (Unit {0}) SendError → Type 0
  Gives first coming answer = IfSome first (λ old. (new : P) × SendsComing w coming old new answer)

  pub went_on : (first next free : Option P) (before middle after : Runs T) → Went first before next middle → Went next middle free after → Went first before free after
  went_on None next free before middle after went step = tt
  went_on (Some old) None free before middle after went step = absurd went
  went_on (Some old) (Some mid) None before middle after went step = absurd step
  went_on (Some old) (Some mid) (Some new) before middle after went step = goes_on before middle after old mid new went step

  pub ended_on : (first next kept : Option P) (before after : Runs T) (answer : Result (Unit {0}) SendError) → Went first before next after → Ended next after kept answer → Ended first before kept answer
  ended_on None next kept before after answer went came = tt
  ended_on (Some old) None kept before after answer went came = absurd went
  ended_on (Some old) (Some mid) None before after answer went came = absurd came
  ended_on (Some old) (Some mid) (Some new) before after answer went came = comes_on before after old mid new answer went came

  pub gives_on : (first next : Option P) (before after : Runs T) (answer : Result (Unit {0}) SendError) → Went first before next after → Gives next after answer → Gives first before answer
  gives_on None next before after answer went came = tt
  gives_on (Some old) None before after answer went came = absurd went
  gives_on (Some old) (Some mid) before after answer went came = (came.0, comes_on before after old mid came.0 answer went came.1)

  -- what is known with the pass that was left is known without it
  pub gives_ended : (first kept : Option P) (coming : Runs T) (answer : Result (Unit {0}) SendError) → Ended first coming kept answer → Gives first coming answer
  gives_ended None kept coming answer came = tt
  gives_ended (Some old) None coming answer came = absurd came
  gives_ended (Some old) (Some new) coming answer came = (new, came)

  -- it was sent
  pub went_sent : (pass mid : P) (message : T) (rest : Runs T) → Sends w pass mid message (Ok tt) → Went (Some pass) (LeftBy (Some (pass, message)) rest) (Some mid) rest
  went_sent pass mid message rest made = (message ∷ [], (mid, made, refl), λ later last came. (refl, came))

  -- some were sent, from the front
  went_front : (pass : P) (front left : List T) (next : Option (P × T)) (free : Option P) (rest : Runs T) → SendsSoFar w pass front next free left
      → Went (Some pass) (Behind front rest) (pass_at next free) (LeftBy next (Behind left rest))
  went_front pass front left (Some begun) free rest went = (went.0, went.1, λ later last came. subst (λ xs. Behind xs rest (went.0 ++ later) last) (sym (went.2 ∙ append_assoc went.0 (begun.1 ∷ []) left)) (behind_sent went.0 (begun.1 ∷ left) rest later last came))
  went_front pass front left None None rest went = absurd went
  went_front pass front left None (Some new) rest went = (went.0, went.1, λ later last came. subst (λ xs. Behind xs rest (went.0 ++ later) last) (sym (went.2 ∙ append_assoc went.0 [] left)) (behind_sent went.0 left rest later last came))

  -- a message came, and some were sent
  pub went_message : (first : Option P) (before was : Runs T) (pass : P) (message : T) (came left : List T) (gives : Runs T) (next : Option (P × T)) (free : Option P)
      → Went first before (Some pass) was → ComesFrom was (Behind came gives) message → SendsSoFar w pass (message ∷ came) next free left → Went first before (pass_at next free) (LeftBy next (Behind left gives))
  went_message first before was pass message came left gives next free went item sent =
      let front = Behind (message ∷ came) gives in
      let here = went_on first (Some pass) (Some pass) before was front went ([], refl, leads_first message was (Behind came gives) item.0 item.1) in
      went_on first (Some pass) (pass_at next free) before front (LeftBy next (Behind left gives)) here (went_front pass (message ∷ came) left next free gives sent)

  -- none came yet
  pub went_within : (pass : P) (before after : Runs T) → Within before after → Went (Some pass) before (Some pass) after
  went_within pass before after within = ([], refl, within)

  -- none comes
  pub ended_here : (pass : P) (coming : Runs T) → coming [] None → Ended (Some pass) coming (Some pass) (Ok tt)
  ended_here pass coming came = ([], came, refl)

  -- it was refused
  pub ended_refused : (pass mid : P) (message : T) (rest : Runs T) (error : SendError) → Sends w pass mid message (Err error) → Ended (Some pass) (LeftBy (Some (pass, message)) rest) (Some mid) (Err error)
  ended_refused pass mid message rest error made = ([], message, pass, refl, refl, made)

  busy : (begun : P × T) (idle : Option P) (pass : P) → (is_some idle ≡ true → Some begun ≡ None) → idle ≡ Some pass → ⊥
  busy begun idle pass one is = let e : Some begun ≡ None = one (subst (λ o. is_some o ≡ true) (sym is) refl) in cc

  -- where no send is begun, the pass is that of the next
  pub at_rest : (first : Option P) (before : Runs T) (begun : Option (P × T)) (idle : Option P) (given : Runs T) (pass : P) → (is_some idle ≡ true → begun ≡ None) → idle ≡ Some pass → Went first before (pass_at begun idle) (LeftBy begun given) → Went first before (Some pass) given
  at_rest first before None idle given pass one is went = subst (λ o. Went first before o given) is went
  at_rest first before (Some begun) idle given pass one is went = absurd (busy begun idle pass one is)

  pub from_rest : (first : Option P) (before : Runs T) (begun : Option (P × T)) (idle : Option P) (given : Runs T) (pass : P) → (is_some idle ≡ true → begun ≡ None) → idle ≡ Some pass → Went first before (Some pass) given → Went first before (pass_at begun (Some pass)) (LeftBy begun given)
  from_rest first before None idle given pass one is went = went
  from_rest first before (Some begun) idle given pass one is went = absurd (busy begun idle pass one is)

  -- the same by equal options
  pub some_same : (before after : Runs T) (begun begun' next next' : Option (P × T)) (idle idle' free free' : Option P) → SendsSome w begun idle before next free after
      → begun' ≡ begun → idle' ≡ idle → next' ≡ next → free' ≡ free → SendsSome w begun' idle' before next' free' after
  some_same before after begun begun' next next' idle idle' free free' went b i n f = rw (b, i, n, f) went

  -- what a task may answer from where it is it may answer from where it was
  pub same_on : {Sender Hist Log Prefix Internal : Type 0} (held next : Option (Sender × SendStage T Hist P Log Prefix Internal)) (before after : Runs T) (answer : Result (Unit {0}) SendError) → is_some held ≡ true → is_some next ≡ true
      → SendsSome w (flattened (option_map (λ h. stage_begun h.1) held)) (flattened (option_map (λ h. stage_idle h.1) held)) before (flattened (option_map (λ h. stage_begun h.1) next)) (flattened (option_map (λ h. stage_idle h.1) next)) after
      → MatchOption next (answer ≡ Err Finished) (λ h. SendsAll w (stage_begun h.1) (stage_idle h.1) after answer)
      → MatchOption held (answer ≡ Err Finished) (λ h. SendsAll w (stage_begun h.1) (stage_idle h.1) before answer)
  same_on None next before after answer was is went came = absurd (cc)
  same_on (Some h) None before after answer was is went came = absurd (cc)
  same_on (Some h) (Some n) before after answer was is went came =
      gives_on (pass_at (stage_begun h.1) (stage_idle h.1)) (pass_at (stage_begun n.1) (stage_idle n.1)) (LeftBy (stage_begun h.1) before) (LeftBy (stage_begun n.1) after) answer went came

  -- what a task answers at its end it may answer from where it was
  pub ended_at : {Sender Hist Log Prefix Internal : Type 0} (held : Option (Sender × SendStage T Hist P Log Prefix Internal)) (kept : Option P) (given : Runs T) (answer : Result (Unit {0}) SendError) → is_some held ≡ true
      → SendsAllTo w (flattened (option_map (λ h. stage_begun h.1) held)) (flattened (option_map (λ h. stage_idle h.1) held)) given kept answer
      → MatchOption held (answer ≡ Err Finished) (λ h. SendsAll w (stage_begun h.1) (stage_idle h.1) given answer)
  ended_at None kept given answer is came = absurd (cc)
  ended_at (Some h) kept given answer is came = gives_ended (pass_at (stage_begun h.1) (stage_idle h.1)) kept (LeftBy (stage_begun h.1) given) answer came
