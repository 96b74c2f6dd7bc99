-- What may stand between two terms.
use Rattle.std.specs.Prelude.{List, Option, Some, None, map}
use Rattle.std.specs.Borrow.{Bor}
use Rattle.kl1_model.specs.declared.built_in.BuiltIn.{BuiltIn}
use Rattle.kl1_model.specs.declared.built_in.BuiltIn.TheVariants as name
use Rattle.kl1_model.specs.declared.relation.Relation.{Relation}
use Rattle.kl1_model.specs.declared.relation.Relation.TheVariants.{Equal, NotEqual, Assign, Less, Greater, AtMost, AtLeast, SameNumber, OtherNumber}
use Rattle.kl1_model.specs.Grammar as grammar
use Rattle.kl1_model.specs.Grammar.{Adding, by_plus, by_minus, Multiplying, by_star, by_slash, by_mod}
use Rattle.kl1_model.specs.reader.Reader.{Answer, relation_in_front, adding_in_front, multiplying_in_front}
use Rattle.kl1_read.specs.declared.infix.Level.{Level}
use Rattle.kl1_read.specs.declared.infix.Level.TheVariants.{Relations, Sums, Products}
use Rattle.kl1_read.specs.declared.numbered.Numbered.{Numbered}
use Rattle.kl1_read.specs.Views.{numbered_token}

-- what was read, changed
abbrev pub answer_map : {A B : Type 0} → (A → B) → Answer A → Answer B
answer_map f None = None
answer_map f (Some r) = Some (f r.0, r.1)

-- the built-in name of a relation
abbrev pub relation_named : Relation → BuiltIn
relation_named Equal = name.Equal
relation_named NotEqual = name.NotEqual
relation_named Assign = name.Assign
relation_named Less = name.Less
relation_named Greater = name.Greater
relation_named AtMost = name.AtMost
relation_named AtLeast = name.AtLeast
relation_named SameNumber = name.SameNumber
relation_named OtherNumber = name.OtherNumber

-- the built-in name of an operator of sums
abbrev pub adding_named : Adding → BuiltIn
adding_named by_plus = name.Plus
adding_named (by_minus digit) = name.Minus

-- the built-in name of an operator of products
abbrev pub multiplying_named : Multiplying → BuiltIn
multiplying_named by_star = name.Times
multiplying_named by_slash = name.Divide
multiplying_named (by_mod applied) = name.Modulo

-- the name of a level in front of tokens, with what is after it
abbrev pub infix_in_front : Level → List grammar.Numbered → Answer BuiltIn
infix_in_front Relations ts = answer_map relation_named (relation_in_front ts)
infix_in_front Sums ts = answer_map adding_named (adding_in_front ts)
infix_in_front Products ts = answer_map multiplying_named (multiplying_in_front ts)

-- a name with what is after it
abbrev pub infix_view : Option (BuiltIn × Bor (List Numbered)) → Answer BuiltIn
infix_view None = None
infix_view (Some r) = Some (r.0, map numbered_token r.1.now)
