use Rattle.kanal_journal.proofs.Common.{◌≡◌, ◌<◌, ◌≤◌, length, slice_get, Some, refl, sym, ap, subst, ◌∙◌, inl, arith, ltb-true, nat_tests, line_of, Withdraw, Tells, not_waiting, told_of, withdrawn}
use Rattle.kanal_journal.proofs.Giving.{looked-up, placed}
use Rattle.kanal_journal.proofs.Numbering.{numbered-count}
use Rattle.kanal_journal.proofs.Withdrawing.{numbered-get, not-waiting-told}
use Rattle.kanal_journal.proofs.journal.calls.withdraw.Goals as goal

pub returns-in_default-clause-told : goal.returns-in_default-clause-told
returns-in_default-clause-told g c =
    let past : length c.args.tickets.now ≤ c.args.number = grind (arith, nat_tests, c.in_default.ensures.lookup.0) in
    let all = numbered-count 0 c.args.tickets.now c.args.core.now.next c.requires.numbered in
    let none = c.holds.ensures.given c.args.number (omega (arith, all, past)) in
    let l = line_of c.args.core.now in
    let told : Tells l (Withdraw c.args.number) (not_waiting l) = inl (not-waiting-told l l c.args.number none.0 none.1 refl) in
    subst (λ m. Tells l (Withdraw c.args.number) (told_of l m)) (sym c.replied.ensures) told

pub returns-in-Some-withdraw-clause-told : goal.returns-in-Some-withdraw-clause-told
returns-in-Some-withdraw-clause-told g c =
    let k = c.in-Some.ensures.lookup in
    let there : c.args.number < length c.args.tickets.now = ltb-true c.args.number (length c.args.tickets.now) (sym k.0) in
    let same : c.in-Some.ticket.now.number ≡ c.args.number = omega (arith, ap (λ t. t.number) k.1, numbered-get 0 c.args.tickets.now c.args.core.now.next c.args.number c.in-Some.ticket.now c.requires.numbered there) in
    let l = line_of c.args.core.now in
    let new = line_of c.withdraw.new.core in
    let told = subst (λ n. Tells l (Withdraw n) (withdrawn new c.in-Some-withdraw.waiter.message)) same c.in-Some-withdraw.ensures.told in
    subst (λ m. Tells l (Withdraw c.args.number) (told_of new m)) (sym c.replied-in-Some-withdraw.ensures) told

pub returns-in-None-clause-told : goal.returns-in-None-clause-told
returns-in-None-clause-told g c =
    let k = c.in-Some.ensures.lookup in
    let there : c.args.number < length c.args.tickets.now = ltb-true c.args.number (length c.args.tickets.now) (sym k.0) in
    let same : c.in-Some.ticket.now.number ≡ c.args.number = omega (arith, ap (λ t. t.number) k.1, numbered-get 0 c.args.tickets.now c.args.core.now.next c.args.number c.in-Some.ticket.now c.requires.numbered there) in
    let at : slice_get c.args.tickets.now c.in-Some.ticket.now.number ≡ Some c.in-Some.ticket.now =
    subst (λ n. slice_get c.args.tickets.now n ≡ Some c.in-Some.ticket.now) (sym same) (looked-up c.args.tickets.now c.args.number _ there ∙ ap (λ t. Some t) (sym k.1)) in
    let l = line_of c.args.core.now in
    let new = line_of c.withdraw.new.core in
    let told = subst (λ n. Tells l (Withdraw n) (not_waiting new)) same (c.in-None.ensures.nobody (placed c.args.tickets.now c.in-Some.ticket.now c.args.core.now.waiters at c.requires.kept)) in
    subst (λ m. Tells l (Withdraw c.args.number) (told_of new m)) (sym c.replied-in-None.ensures) told
