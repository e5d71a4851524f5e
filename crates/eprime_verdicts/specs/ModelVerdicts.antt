-- What a verdict of the code says in the definitions.
use Rattle.std.specs.Prelude.{◌≡◌, ℕ, min, List, true}
use Rattle.std.specs.List.{list_all}
use Rattle.ess_semantics.specs.Names.{Names}
use Rattle.ess_semantics.specs.Tables as pure
use Rattle.ess_semantics.specs.ModelTrees.{Model, all_decls}
use Rattle.ess_semantics.specs.Satisfaction.{ModelVerdict, satisfied, missing_table, extra_table, outside_domain, false_rule, domain_has_meaning, first_outside}
use Rattle.eprime_verdicts.specs.declared.domains.ClosedDecl.{ClosedDecl}
use Rattle.eprime_verdicts.specs.declared.satisfying.PVerdict.{PVerdict}
use Rattle.eprime_verdicts.specs.declared.satisfying.PVerdict.TheVariants.{Yes, OutOfDomain, Missing, Extra, False}
use Rattle.eprime_verdicts.specs.ClosedDecls.{outside_of}

-- The verdict of the definitions that a verdict stands for. The number of a constraint is kept at 2^32 - 1.
abbrev pub IsVerdict : PVerdict → ModelVerdict → Type 0
IsVerdict Yes v = v ≡ satisfied
IsVerdict (OutOfDomain a) v = v ≡ outside_domain a
IsVerdict (Missing a) v = v ≡ missing_table a
IsVerdict (Extra a) v = v ≡ extra_table a
IsVerdict (False n) v = (k : ℕ) × (v ≡ false_rule k) × (n ≡ min k 4294967295)

-- Each declared domain of the model has a meaning, and these are the declarations of what is to be found.
pub record AreFound (E : Model) (q : Names pure.Table) (rs : List ClosedDecl) : Type 0 where
  pub meant : list_all (domain_has_meaning E q) (all_decls E) ≡ true
  pub outside : (c : Names pure.Table) → first_outside E q E.finds c ≡ outside_of rs c
