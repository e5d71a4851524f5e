-- Values along chains, and what rules count on that follows.
use Rattle.std.proofs.Common.{◌≡◌, refl, ◌∙◌, subst, Bool, true, false, ◌&&◌, not, Option}
use Rattle.std.specs.Prelude.{IsTrue, is_some}
use Rattle.std.specs.List.{list_all}
use Rattle.ess_semantics.specs.Values.{Value}
use Rattle.ess_semantics.specs.Trees.{Ex, Exs, number_ex, truth_ex, name_ex, node_ex, matrix_ex, comp_ex, cell_ex, seen_ex, no_exs, more_exs, Gens, no_gens, over, from, cond}
use Rattle.ess_semantics.specs.Meaning.{Env, meaning, meanings}
use Rattle.ess_semantics.specs.Contexts.{In, fill, guards, Guarded, Where}
use Rattle.ess_semantics.proofs.Tests.{and-left, and-right, and-both}
use Rattle.ess_guard_laws.specs.Guard.{counts}
use Rattle.ess_guard_laws.specs.Supplied.{Unless}
use Rattle.ess_guard_natural_laws.specs.TotalButNatural.{opens_places}
use Rattle.ess_rules_laws.specs.SpliceRules.{SourceThere}
use Rattle.ess_refine_laws.specs.ScopesStay.{is_outside_views}
use Rattle.ess_values_along_laws.specs.Valued.{lacks, Valued, AllValued}
use Rattle.ess_values_along_laws.specs.ValuesAlong.{natural_at, KeepsValues, ValuedChain, as_valued, valued_at, may_lack_there, none_may_lack, ValuesAlong}
use Rattle.ess_values_along_laws.proofs.ValuedSteps.{same, step-valued}

-- ---- at a part, and along a chain

at-part : (c : In) (w : Bool) (a b : Ex) (env : Env) → is_outside_views c ≡ true →
    Where c env (KeepsValues (natural_at a c w) a b) → KeepsValues w (fill c a) (fill c b) env
at-part c w a b env o p = (same a b c (natural_at a c w) env p, λ v. step-valued a b c w env o p v)

along-chain : (env : Env) (w : Bool) (old new : Ex) → ValuedChain env w old new → KeepsValues w old new env
along-chain env w old new as_valued = (refl, λ v. v)
along-chain env w old new (valued_at a b c o p r) =
    let k = at-part c w a b env o p in let l = along-chain env w (fill c b) new r in (k.0 ∙ l.0, λ v. l.1 (k.1 v))

-- ---- what has values in no natural place has them in one

unless-more : (b : Bool) (P : Type 0) → P → Unless b P
unless-more true P h = tt
unless-more false P h = h

guarded-more : (g : Bool) (o : Option Value) (P Q : Type 0) → (P → Q) → Guarded g o P → Guarded g o Q
guarded-more true o P Q f h = λ t. f (h t)
guarded-more false o P Q f h = f h

mutual
  in-places : (w : Bool) (e : Ex) (env : Env) → Valued false e env → Valued w e env
  in-places w (number_ex n) env v = tt
  in-places w (truth_ex b) env v = tt
  in-places w (name_ex a) env v = v
  in-places w (node_ex true op es) env v = v
  in-places w (node_ex false op es) env v = (
    unless-more (lacks w false op) (IsTrue (is_some (meaning (node_ex false op es) env))) v.0,
    all-places (guards op) (opens_places w false op) es env v.1,
  )
  in-places w (matrix_ex es d) env v = v
  in-places w (comp_ex e gs) env v = v
  in-places w (cell_ex true n es) env v = v
  in-places w (cell_ex false n es) env v = (unless-more w (IsTrue (is_some (meaning (cell_ex false n es) env))) v.0, v.1)
  in-places w (seen_ex r d ns es) env v = v

  all-places : (g w : Bool) (es : Exs) (env : Env) → AllValued g false es env → AllValued g w es env
  all-places g w no_exs env v = tt
  all-places true w (more_exs e es) env v = (in-places w e env v.0, λ t. all-places false w es env (v.1 t))
  all-places false w (more_exs e es) env v = (in-places w e env v.0, all-places false w es env v.1)

-- ---- what follows

said : (b : Bool) (P : Type 0) → b ≡ false → Unless b P → P
said true P q h = cc
said false P q h = h

no-and : (w : Bool) → w && true ≡ false → w ≡ false
no-and true h = cc
no-and false h = refl

value-there : (w : Bool) (e : Ex) (env : Env) → w && may_lack_there e ≡ false → Valued w e env → IsTrue (is_some (meaning e env))
value-there w (number_ex n) env q v = refl
value-there w (truth_ex b) env q v = refl
value-there w (name_ex a) env q v = v
value-there w (node_ex true op es) env q v = refl
value-there w (node_ex false op es) env q v =
    said (w && counts op) (IsTrue (is_some (meaning (node_ex false op es) env))) q v.0
value-there w (matrix_ex es d) env q v = v.0
value-there w (comp_ex e gs) env q v = v.0
value-there w (cell_ex true n es) env q v = refl
value-there w (cell_ex false n es) env q v = said w (IsTrue (is_some (meaning (cell_ex false n es) env))) (no-and w q) v.0
value-there w (seen_ex r d ns es) env q v = v.0

not-true : (b : Bool) → not b ≡ true → b ≡ false
not-true true h = cc
not-true false h = refl

and-no : (w b : Bool) → b ≡ false → w && b ≡ false
and-no true b h = h
and-no false b h = refl

outside-there : (es : Exs) (env : Env) → AllValued false false es env → IsTrue (list_all is_some (meanings es env))
outside-there no_exs env v = refl
outside-there (more_exs e es) env v = and-both (is_some (meaning e env)) (list_all is_some (meanings es env))
    (value-there false e env refl v.0) (outside-there es env v.1)

-- The operands of an operator that doesn't guard.
unguarded : (g w : Bool) (es : Exs) (env : Env) → g ≡ false → AllValued g w es env → AllValued false w es env
unguarded true w es env q v = cc
unguarded false w es env q v = v

-- What is proved of values along chains.
pub values-along : ValuesAlong
values-along = record {
  at_a_part = at-part;
  along = along-chain;
  value = value-there;
  operands = λ w b op es env g o v. outside-there es env
      (subst (λ z. AllValued false z es env) o (unguarded (guards op) (opens_places w b op) es env g v.1));
  compared = λ w b op es env g n v. compared-there (opens_places w b op) es env n
      (unguarded (guards op) (opens_places w b op) es env g v.1);
  source = first-source;
  in_places = in-places;
}
  where
    compared-there : (w : Bool) (es : Exs) (env : Env) → none_may_lack es ≡ true → AllValued false w es env →
        IsTrue (list_all is_some (meanings es env))
    compared-there w no_exs env n v = refl
    compared-there w (more_exs e es) env n v = and-both (is_some (meaning e env)) (list_all is_some (meanings es env))
        (value-there w e env (and-no w (may_lack_there e) (not-true (may_lack_there e) (and-left (not (may_lack_there e))
        (none_may_lack es) n)))
        v.0) (compared-there w es env (and-right (not (may_lack_there e)) (none_may_lack es) n) v.1)

    first-source : (w : Bool) (e : Ex) (gs : Gens) (env : Env) → Valued w (comp_ex e gs) env → SourceThere (comp_ex e gs) env
    first-source w e (from p s hs) env v = value-there false s env refl v.1.0
    first-source w e no_gens env v = tt
    first-source w e (over p d hs) env v = tt
    first-source w e (cond c hs) env v = tt
