-- What a task sends of what a stream gives, one after the other.
use Rattle.std.specs.Prelude.{◌≡◌, ℕ, Bool, List, [], ◌∷◌, ◌++◌, Option, Some, None, Result, Err, IfSome, IsSomeAnd, MatchOption, MatchResult, is_some, option_map}
use Rattle.futures.specs.Runs.{After, Leads, LeadsIf, Runs}
use Rattle.kanal_core.specs.declared.error.SendError.{SendError}
use Rattle.kanal_core.specs.declared.error.SendError.TheVariants.{Finished}
use Rattle.kanal_channel.specs.Batches.{SendsFront, SendsThese}
use Rattle.kanal_state.specs.Handles.{Sends}
use Rattle.kanal_state.specs.HistoryRelations.{HistoryRelations}
use Rattle.kanal_futures.specs.Futures.{suspended_begun, suspended_source}
use Rattle.kanal.specs.declared.send_all.SendAll.{SendAll}
use Rattle.kanal.specs.declared.send_all.SendStage.{SendStage}
use Rattle.kanal.specs.declared.send_all.SendStage.TheVariants.{Busy, Idle}

-- what is in an option in an option
abbrev pub flattened : {A : Type 0} → Option (Option A) → Option A
flattened None = None
flattened (Some inner) = inner

-- the pass of the send that was begun, or of the next
abbrev pub pass_at : {P T : Type 0} → Option (P × T) → Option P → Option P
pass_at None idle = idle
pass_at (Some begun) idle = Some begun.0

-- the message that is being sent, and then what the stream gives
abbrev pub LeftBy : {P T : Type 0} → Option (P × T) → Runs T → Runs T
LeftBy begun given = LeadsIf begun (λ b message. message ≡ b.1) given

-- what a stream gives yet; nothing where it has ended
abbrev pub StillGives : {S T : Type 0} → (S → Runs T) → Option S → Runs T
StillGives yields None items last = (items ≡ []) × (last ≡ None)
StillGives yields (Some stream) items last = yields stream items last

-- the item may come first, and then what may come after it
abbrev pub ComesFrom : {T : Type 0} → Runs T → Runs T → T → Type 0
ComesFrom before after item = before [] (Some item) × After before item after

-- what came already, and then what may come
abbrev pub Behind : {T : Type 0} → List T → Runs T → Runs T
Behind [] rest = rest
Behind (message ∷ came) rest = Leads (λ item. item ≡ message) (Behind came rest)

module _ {T P : Type 0} (w : HistoryRelations T P) where
  -- messages were sent from the front of a list; then one of them is begun, or none is, and the rest is left
  abbrev pub SendsSoFar : P → List T → Option (P × T) → Option P → List T → Type 0
  SendsSoFar old front next free rest = IsSomeAnd (pass_at next free) (λ new. SendsFront w old new front (option_map (λ begun. begun.1) next) rest)

  -- all that comes was sent, and the answer is `Ok`; or all before a message was, and that was refused with this answer
  abbrev pub SendsComing : Runs T → P → P → Result (Unit {0}) SendError → Type 0
  SendsComing coming old new answer =
      MatchResult answer (λ _. (sent : List T) × coming sent None × SendsThese w old sent new)
      (λ error. (sent : List T) × (message : T) × (mid : P) × coming sent (Some message) × SendsThese w old sent mid × Sends w mid new message (Err error))

  -- what becomes of the message that is being sent, and of what the stream gives then
  abbrev pub SendsAll : Option (P × T) → Option P → Runs T → Result (Unit {0}) SendError → Type 0
  SendsAll begun idle given answer = IfSome (pass_at begun idle) (λ old. (new : P) × SendsComing (LeftBy begun given) old new answer)

  -- the same, where the pass is known that was left
  abbrev pub SendsAllTo : Option (P × T) → Option P → Runs T → Option P → Result (Unit {0}) SendError → Type 0
  SendsAllTo begun idle given kept answer = IfSome (pass_at begun idle) (λ old. IsSomeAnd kept (λ new. SendsComing (LeftBy begun given) old new answer))

  -- some messages were sent; what may come now may come behind them
  abbrev pub SendsOn : Runs T → P → Runs T → P → Type 0
  SendsOn before old after new = (sent : List T) × SendsThese w old sent new × ((later : List T) (last : Option T) → after later last → before (sent ++ later) last)

  -- the same, from where a task was to where it is
  abbrev pub SendsSome : Option (P × T) → Option P → Runs T → Option (P × T) → Option P → Runs T → Type 0
  SendsSome begun idle before next free after =
      IfSome (pass_at begun idle) (λ old. IsSomeAnd (pass_at next free) (λ new. SendsOn (LeftBy begun before) old (LeftBy next after) new))

module _ {T Hist Pass Log Prefix Internal : Type 0} where
  -- the message that is being sent, with the pass of its send
  abbrev pub stage_begun : SendStage T Hist Pass Log Prefix Internal → Option (Pass × T)
  stage_begun (Idle pass) = None
  stage_begun (Busy suspended) = suspended_begun suspended

  -- the pass of the next send, where none is begun
  abbrev pub stage_idle : SendStage T Hist Pass Log Prefix Internal → Option Pass
  stage_idle (Idle pass) = Some pass
  stage_idle (Busy suspended) = None

  -- what it waits for: an item, or its send
  abbrev pub StageWaits : (ℕ → Type 0) → SendStage T Hist Pass Log Prefix Internal → ℕ → Type 0
  StageWaits needs (Idle pass) s = needs s
  StageWaits needs (Busy suspended) s = s ≡ suspended_source suspended

module _ {S T Hist Pass Log Prefix Internal : Type 0} where
  -- the message that is being sent, with the pass of its send
  abbrev pub all_begun : SendAll S T Hist Pass Log Prefix Internal → Option (Pass × T)
  all_begun m = flattened (option_map (λ held. stage_begun held.1) m.held)

  -- the pass of the next send, where none is begun
  abbrev pub all_idle : SendAll S T Hist Pass Log Prefix Internal → Option Pass
  all_idle m = flattened (option_map (λ held. stage_idle held.1) m.held)

  -- the stream whose items are sent, until it ends
  abbrev pub all_stream : SendAll S T Hist Pass Log Prefix Internal → Option S
  all_stream m = m.stream

  -- the items that came and were not sent yet
  abbrev pub all_ready : SendAll S T Hist Pass Log Prefix Internal → List T
  all_ready m = m.ready.queue.items

  -- these, and then what the stream gives
  abbrev pub all_coming : (S → Runs T) → SendAll S T Hist Pass Log Prefix Internal → Runs T
  all_coming yields m = Behind m.ready.queue.items (StillGives yields m.stream)

  -- the pass that is left at the answer
  abbrev pub all_ended : SendAll S T Hist Pass Log Prefix Internal → Option Pass
  all_ended m = m.ended

  -- the sender is still held
  abbrev pub all_held : SendAll S T Hist Pass Log Prefix Internal → Bool
  all_held m = is_some m.held

  -- what it waits for: its send, or an item
  abbrev pub AllWaits : (S → ℕ → Type 0) → SendAll S T Hist Pass Log Prefix Internal → ℕ → Type 0
  AllWaits needs m s = IfSome m.held (λ held. StageWaits (λ name. IsSomeAnd m.stream (λ stream. needs stream name)) held.1 s)

  -- what it may answer
  abbrev pub AllGives : HistoryRelations T Pass → (S → Runs T) → SendAll S T Hist Pass Log Prefix Internal → Result (Unit {0}) SendError → Type 0
  AllGives w yields m answer =
      MatchOption m.held (answer ≡ Err Finished) (λ held. SendsAll w (stage_begun held.1) (stage_idle held.1) (all_coming yields m) answer)
