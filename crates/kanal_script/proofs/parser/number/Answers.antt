use Rattle.kanal_script.proofs.Common.{ℕ, subst, sym, refl, List, IsPlain}
use Rattle.kanal_script.proofs.Numbers.{plain_read, unread, plain-decimal}
use Rattle.kanal_script.proofs.parser.number.Goals as goal

pub returns-then-is_plain-clause-value : goal.returns-then-is_plain-clause-value
returns-then-is_plain-clause-value c = plain_read _ c.parse.result c.ok.result (c.if-is_plain.ensures.0 refl) c.parse.ensures.value.0 c.ok.ensures.value

pub returns-then-is_plain-clause-none : goal.returns-then-is_plain-clause-none
returns-then-is_plain-clause-none c = unread _ c.parse.result c.ok.result c.parse.ensures.value.0 c.ok.ensures.value

pub returns-else-is_plain-clause-none : goal.returns-else-is_plain-clause-none
returns-else-is_plain-clause-none c = λ _ n small e. let plain = c.if-is_plain.ensures.1 (subst (λ (xs : List ℕ). IsPlain xs) (sym e) (plain-decimal n small)) in (cc)
