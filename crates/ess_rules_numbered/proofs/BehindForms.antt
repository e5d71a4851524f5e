-- Rules of sources at the first generator that isn't plain, by the parts of the comprehension, and items of lists by their operands.
use Rattle.std.proofs.Common.{◌≡◌, refl, ap, ◌∙◌, Bool, [], ◌∷◌, Option, Some, None, option_map}
use Rattle.ess_semantics.specs.Lists.{and_then}
use Rattle.ess_semantics.specs.Values.{Text}
use Rattle.ess_semantics.specs.Names.{Names}
use Rattle.ess_semantics.specs.NamesAt.{names_behind}
use Rattle.ess_semantics.specs.Trees.{by_value, index, name_pat, Ex, Exs, node_ex, comp_ex, no_exs, more_exs, Gens, from}
use Rattle.ess_semantics.specs.Types.{Ty}
use Rattle.ess_open_rules_laws.specs.OpenGenerators.{Opened, at_first_open, put_before, behind_plain}
use Rattle.ess_rules_folds.specs.Forms.{source_parts}
use Rattle.ess_rules_forms.specs.Forms.{both_operands}
use Rattle.ess_rules_ordered.proofs.IndexedForms.{put-over}
use Rattle.ess_rules_numbered.specs.BehindForms.{behind_parts, with_source, item_parts}

-- ---- comprehensions

-- What is made of the first of generators, where f is made of its source.
abbrev pub of-source : (Ex → Option Ex) → Ex → Gens → Option Ex
of-source f e hs = and_then (source_parts hs) (λ q. option_map (λ l. comp_ex e (from (name_pat q.0) l q.2)) (f q.1))

module _ (g : Names Ty) (f r : Names Ty → Ex → Option Ex) (h : (k : Names Ty) (e : Ex) (hs : Gens) → r k (comp_ex e hs) ≡ of-source (f k) e hs) where
  at-source : (e : Ex) (gs : Gens) (o : Option (Text × Ex × Gens))
      → and_then (and_then o (λ q. option_map (λ l. comp_ex e (from (name_pat q.0) l q.2)) (f (names_behind gs g) q.1))) (put_before gs)
      ≡ and_then (option_map (λ q. record { body = e; before = gs; name = q.0; source = q.1; rest = q.2 }) o)
      (λ p. option_map (with_source p) (f (names_behind p.before g) p.source))
  at-source e gs None = refl
  at-source e gs (Some q) = put-over e gs q.0 q.2 (f (names_behind gs g) q.1)

  at-open : (e : Ex) (o : Option Opened)
      → and_then o (λ t. and_then (r (names_behind t.before g) (comp_ex e t.after)) (put_before t.before))
      ≡ and_then (and_then o (λ t. option_map (λ q. record { body = e; before = t.before; name = q.0; source = q.1; rest = q.2 })
      (source_parts t.after))) (λ p. option_map (with_source p) (f (names_behind p.before g) p.source))
  at-open e None = refl
  at-open e (Some t) =
      ap (λ o. and_then o (put_before t.before)) (h (names_behind t.before g) e t.after)
      ∙ at-source e t.before (source_parts t.after)

  -- A rule that puts f of the source in its place, where that is there.
  pub source_by_parts : (e : Ex) → behind_plain (λ gs. r (names_behind gs g)) e
      ≡ and_then (behind_parts e) (λ p. option_map (with_source p) (f (names_behind p.before g) p.source))
  source_by_parts (comp_ex e gs) = at-open e (at_first_open gs)
  source_by_parts e = refl

-- ---- items

-- An item by its operands.
pub item_by_operands : (b : Bool) (es : Exs) → option_map (λ p. (b, p)) (both_operands es)
    ≡ item_parts (node_ex b (index (by_value ∷ [])) es)
item_by_operands b no_exs = refl
item_by_operands b (more_exs a no_exs) = refl
item_by_operands b (more_exs a (more_exs i no_exs)) = refl
item_by_operands b (more_exs a (more_exs i (more_exs j es))) = refl
