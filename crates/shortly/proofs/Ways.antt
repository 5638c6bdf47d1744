-- Which words are an operation's, over plain values: by the second number first, and then by the kind.
-- In order: a second number that is 0; one that is not. Assumes nothing.
use Rattle.std.proofs.Common.{◌≡◌, ◌<◌, ◌≤◌, true, false, arith}
use Rattle.std.proofs.lemmas.Grind.{common_steps}
use Rattle.encoding.specs.declared.OpWords.{OpWords}
use Rattle.encoding.specs.Encoding.{op_from, same_three, op_right}
use Rattle.shortly.specs.Shortly.{seeks_of}

module _ (o : OpWords) where
  pub seeks_key : o.second ≡ 0 → 1 ≤ o.kind → o.kind < 5 → true ≡ seeks_of o
  unfolding seeks_of op_right op_from same_three
  seeks_key h i j = grind (arith, common_steps)

  pub seeks_none : o.kind < 1 → false ≡ seeks_of o
  unfolding seeks_of op_right op_from same_three
  seeks_none h = grind (arith, common_steps)

  pub seeks_past : 5 ≤ o.kind → false ≡ seeks_of o
  unfolding seeks_of op_right op_from same_three
  seeks_past h = grind (arith, common_steps)

  pub seeks_insert : o.kind ≡ 1 → true ≡ seeks_of o
  unfolding seeks_of op_right op_from same_three
  seeks_insert h = grind (arith, common_steps)

  pub seeks_range : o.kind ≡ 4 → true ≡ seeks_of o
  unfolding seeks_of op_right op_from same_three
  seeks_range h = grind (arith, common_steps)

  pub seeks_not : (o.second ≡ 0 → ⊥) → (o.kind ≡ 1 → ⊥) → (o.kind ≡ 4 → ⊥) → false ≡ seeks_of o
  unfolding seeks_of op_right op_from same_three
  seeks_not h i j = grind (arith, common_steps)

pub ruleset kinds = (seeks_key, seeks_none, seeks_past, seeks_insert, seeks_range, seeks_not)
