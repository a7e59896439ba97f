-- What a loop in a task hands over, poll after poll: a message comes before what comes after it.
use denote.Param.Members.{Mut, Called}
use Rattle.std.proofs.Common.{◌≡◌, Bool, false, List, [], ◌∷◌, ◌++◌, Option, Some, None, Result, Ok, Err, refl, sym, subst}
use Rattle.std.specs.Option.{IfSome, IsSome, IsSomeAnd}
use Rattle.kanal_core.specs.declared.error.ReceiveError.{ReceiveError}
use Rattle.kanal_core.specs.declared.error.ReceiveError.TheVariants.{SendClosed}
use Rattle.kanal_state.specs.Handles.{Receives}
use Rattle.kanal_state.specs.HistoryRelations.{HistoryRelations}
use Rattle.kanal_channel.specs.Batches.{ReceivesThese}
use Rattle.kanal_futures.specs.Streams.{EndsSo, HasReceived, HaveReceived, StreamRefused}
use Rattle.kanal.specs.Messages.{CallsEach, EndsBy, HandsEach, HandsOn, HandsSome, ReceivesAll, ReceivesUntil}

module _ {T P F R : Type 0} (w : HistoryRelations T P) (call : Mut F (T × Unit {0}) R) (went : R) where
  -- what was handed over, and then more
  pub hands_on : (old mid new : P) (first next last : F) (earlier later : List T) → HandsEach w call went old first earlier mid next → HandsEach w call went mid next later new last
      → HandsEach w call went old first (later ++ earlier) new last
  hands_on old mid new first next last earlier [] before after = subst (λ p. HandsEach w call went old first earlier p last) after.0 (subst (λ f. HandsEach w call went old first earlier mid f) after.1 before)
  hands_on old mid new first next last earlier (m ∷ later) before after = (after.0, after.1, hands_on old mid after.0 first next after.1 earlier later before after.2, after.3, after.4)

  pub ends_on : (old mid new : P) (first next : F) (earlier : List T) (error : ReceiveError) → HandsEach w call went old first earlier mid next → EndsBy w call went mid new next error
      → EndsBy w call went old new first error
  ends_on old mid new first next earlier error before came = (came.0 ++ earlier, came.1, came.2, hands_on old mid came.1 first next came.2 earlier came.0 before came.3, came.4)

  hands_one : (old new : P) (first last : F) (message : T) → Receives w old new (Ok message) → Called call first (message, tt) went last → HandsEach w call went old first (message ∷ []) new last
  hands_one old new first last message got called = (old, first, (refl, refl), got, called)

  -- one message was received and handed over
  pub hands_received : (before after : Option P) (first last : F) (message : T) → HasReceived w before after (Ok message) → Called call first (message, tt) went last → HandsOn w call went before first after last
  hands_received before after first last message received called =
      subst (λ o. HandsOn w call went o first after last) (sym received.from)
      (subst (λ o. IsSomeAnd o (λ new. HandsSome w call went received.old first new last)) (sym received.to) (message ∷ [], hands_one received.old received.new first last message received.receives called))

  hands_these : (old new : P) (first last : F) (messages : List T) → ReceivesThese w old messages new → CallsEach call went first messages last → HandsSome w call went old first new last
  hands_these old new first last [] received called = ([], (received, called))
  hands_these old new first last (m ∷ messages) received called =
      let rest = hands_these received.0 new called.0 last messages received.2 called.2 in
      (rest.0 ++ m ∷ [], hands_on old received.0 new first called.0 last (m ∷ []) rest.0 (hands_one old received.0 first called.0 m received.1 called.1) rest.1)

  -- several were received, and then each was handed over
  pub hands_all : (before after : Option P) (first last : F) (messages : List T) → HaveReceived w before messages after → CallsEach call went first messages last → HandsOn w call went before first after last
  hands_all None after first last messages received called = tt
  hands_all (Some old) None first last messages received called = absurd received
  hands_all (Some old) (Some new) first last messages received called = hands_these old new first last messages received called

module _ {T P F : Type 0} (w : HistoryRelations T P) (call : Mut F (T × Unit {0}) (Unit {0})) where
  -- what comes of a loop whose next receive is by this pass, where it has not ended
  abbrev pub AllFrom : Option P → Bool → F → Result (Unit {0}) ReceiveError → Type 0
  AllFrom pass over first answer = IfSome pass (λ old. over ≡ false → (new : P) × ReceivesAll w call old new first answer)

  all_first : (old mid new : P) (first next : F) (answer : Result (Unit {0}) ReceiveError) → HandsSome w call tt old first mid next → ReceivesAll w call mid new next answer → ReceivesAll w call old new first answer
  all_first old mid new first next (Ok done) before came = ends_on w call tt old mid new first next before.0 SendClosed before.1 came
  all_first old mid new first next (Err error) before came = ends_on w call tt old mid new first next before.0 error before.1 came

  pub all_on : (before after : Option P) (was is : Bool) (first next : F) (answer : Result (Unit {0}) ReceiveError)
      → HandsOn w call tt before first after next → (was ≡ false → is ≡ false) → AllFrom after is next answer → AllFrom before was first answer
  all_on None after was is first next answer handed going came = tt
  all_on (Some old) None was is first next answer handed going came = absurd handed
  all_on (Some old) (Some mid) was is first next answer handed going came = λ live. let rest = came (going live) in (rest.0, all_first old mid rest.0 first next answer handed rest.1)

  all_end : (old new : P) (first : F) (error : ReceiveError) (answer : Result (Unit {0}) ReceiveError) → Receives w old new (Err error) → EndsSo error answer → ReceivesAll w call old new first answer
  all_end old new first error (Ok done) refused so = ([], old, first, (refl, refl), subst (λ e. Receives w old new (Err e)) so refused)
  all_end old new first error (Err e) refused so = ([], old, first, (refl, refl), subst (λ e. Receives w old new (Err e)) (sym so.0) refused)

  pub all_ended : (before after : Option P) (was : Bool) (fault : Option ReceiveError) (first : F) (answer : Result (Unit {0}) ReceiveError)
      → (IsSome before → was ≡ false → StreamRefused w before after fault) → IfSome fault (λ error. EndsSo error answer) → AllFrom before was first answer
  all_ended None after was fault first answer refused so = tt
  all_ended (Some old) after was None first answer refused so = λ live. absurd (refused refl live)
  all_ended (Some old) after was (Some error) first answer refused so = λ live.
      let r = refused refl live in
      let from : Some r.old ≡ Some old = sym r.from in
      subst (λ o. IfSome o (λ p. (new : P) × ReceivesAll w call p new first answer)) from (r.new, all_end r.old r.new first error answer r.receives so)

module _ {T P F E : Type 0} (w : HistoryRelations T P) (call : Mut F (T × Unit {0}) (Result (Unit {0}) E)) where
  abbrev pub UntilFrom : Option P → Bool → F → Result (Result (Unit {0}) E) ReceiveError → Type 0
  UntilFrom pass over first answer = IfSome pass (λ old. over ≡ false → (new : P) × ReceivesUntil w call old new first answer)

  until_first : (old mid new : P) (first next : F) (answer : Result (Result (Unit {0}) E) ReceiveError)
      → HandsSome w call (Ok tt) old first mid next → ReceivesUntil w call mid new next answer → ReceivesUntil w call old new first answer
  until_first old mid new first next (Ok (Ok done)) before came = ends_on w call (Ok tt) old mid new first next before.0 SendClosed before.1 came
  until_first old mid new first next (Ok (Err error)) before came =
      (came.0 ++ before.0, came.1, came.2, came.3, came.4, hands_on w call (Ok tt) old mid came.1 first next came.2 before.0 came.0 before.1 came.5, came.6, came.7)
  until_first old mid new first next (Err error) before came = ends_on w call (Ok tt) old mid new first next before.0 error before.1 came

  pub until_on : (before after : Option P) (was is : Bool) (first next : F) (answer : Result (Result (Unit {0}) E) ReceiveError)
      → HandsOn w call (Ok tt) before first after next → is ≡ false → UntilFrom after is next answer → UntilFrom before was first answer
  until_on None after was is first next answer handed going came = tt
  until_on (Some old) None was is first next answer handed going came = absurd handed
  until_on (Some old) (Some mid) was is first next answer handed going came = λ live. let rest = came going in (rest.0, until_first old mid rest.0 first next answer handed rest.1)

  -- the call answered an error of the first message
  pub until_broken : (before after : Option P) (was : Bool) (first last : F) (message : T) (error : E)
      → HasReceived w before after (Ok message) → Called call first (message, tt) (Err error) last → UntilFrom before was first (Ok (Err error))
  until_broken before after was first last message error received called =
      subst (λ o. UntilFrom o was first (Ok (Err error))) (sym received.from) (λ live. (received.new, ([], received.old, first, message, last, (refl, refl), received.receives, called)))

  -- how a loop whose call may fail answers at its end
  abbrev pub lifted : Result (Unit {0}) ReceiveError → Result (Result (Unit {0}) E) ReceiveError
  lifted (Ok done) = Ok (Ok done)
  lifted (Err error) = Err error

  until_end : (old new : P) (first : F) (error : ReceiveError) (ending : Result (Unit {0}) ReceiveError) → Receives w old new (Err error) → EndsSo error ending → ReceivesUntil w call old new first (lifted ending)
  until_end old new first error (Ok done) refused so = ([], old, first, (refl, refl), subst (λ e. Receives w old new (Err e)) so refused)
  until_end old new first error (Err e) refused so = ([], old, first, (refl, refl), subst (λ e. Receives w old new (Err e)) (sym so.0) refused)

  pub until_ended : (before after : Option P) (was : Bool) (fault : Option ReceiveError) (first : F) (ending : Result (Unit {0}) ReceiveError)
      → (IsSome before → was ≡ false → StreamRefused w before after fault) → IfSome fault (λ error. EndsSo error ending) → UntilFrom before was first (lifted ending)
  until_ended None after was fault first ending refused so = tt
  until_ended (Some old) after was None first ending refused so = λ live. absurd (refused refl live)
  until_ended (Some old) after was (Some error) first ending refused so = λ live.
      let r = refused refl live in
      let from : Some r.old ≡ Some old = sym r.from in
      subst (λ o. IfSome o (λ p. (new : P) × ReceivesUntil w call p new first (lifted ending))) from (r.new, until_end r.old r.new first error ending r.receives so)
