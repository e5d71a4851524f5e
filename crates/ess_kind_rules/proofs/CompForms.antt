-- Rules of comprehensions, by the parts of the root.
use Rattle.std.proofs.Common.{◌≡◌, refl, false, sym, ap, ◌∙◌, List, [], ◌∷◌, map, Option, Some, None, option_map}
use Rattle.ess_semantics.specs.declared.words.Op1.{Op1}
use Rattle.ess_semantics.specs.Lists.{and_then, or_else}
use Rattle.ess_semantics.specs.Values.{Text}
use Rattle.ess_semantics.specs.Names.{Names}
use Rattle.ess_semantics.specs.NamesAt.{names_behind}
use Rattle.ess_semantics.specs.Types.{Ty}
use Rattle.ess_semantics.specs.Trees.{unary, name_pat, Ex, Exs, node_ex, comp_ex, no_exs, more_exs, Gens, from}
use Rattle.ess_rules_laws.specs.SpliceRules.{append_gens}
use Rattle.ess_rules_laws.specs.Listings.{Alternative}
use Rattle.ess_rules_laws.specs.ListedSources.{put_listed}
use Rattle.ess_refine_laws.specs.AllRules.{Supply}
use Rattle.ess_kind_rules_laws.specs.ViewListings.{matrix_listing, members_of_first}
use Rattle.ess_kind_rules_laws.specs.KindRules.{function_size}
use Rattle.ess_rules_forms.specs.Forms.{only_operand}
use Rattle.ess_open_rules_laws.specs.OpenGenerators.{at_first_open, put_before}
use Rattle.ess_open_rules_laws.specs.OpenSources.{picked_members, put_opened, decided_one, opened_in_order, kept_in_order, kept_behind}
use Rattle.ess_rules_folds.specs.Forms.{comp_parts, source_parts}
use Rattle.ess_kind_rules.specs.OpenedViews.{put_at}

pub kept_by_parts : (s : Supply) (g : Names Ty) (e : Ex) → kept_behind s g e
    ≡ and_then (comp_parts e) (λ c. and_then (at_first_open c.1)
    (λ t. and_then (kept_in_order s (names_behind t.before g) (comp_ex c.0 t.after)) (put_before t.before)))
kept_by_parts s g (comp_ex e gs) = refl
kept_by_parts s g e = refl

pub before_by_parts : (gs : Gens) (e : Ex) → put_before gs e ≡ option_map (λ c. comp_ex c.0 (append_gens gs c.1)) (comp_parts e)
before_by_parts gs (comp_ex e ks) = refl
before_by_parts gs e = refl

pub put_by_parts : (e : Ex) (gs hs : Gens) (f : Ex → Option (List Alternative)) → put_opened e gs hs f
    ≡ and_then (source_parts hs) (λ q. option_map (map (put_at gs q.0 e q.2)) (f q.1))
put_by_parts e gs (from (name_pat y) u hs) f = refl
put_by_parts e gs hs f = refl

-- Over a view of a matrix, else over the one alternative that is picked.
in-order-put : (y : Text) (e t : Ex) (hs : Gens) (o p : Option Alternative)
    → and_then (or_else o p) (λ a. Some (put_listed y e hs a)) ≡ or_else (option_map (put_listed y e hs) o) (option_map (put_listed y e hs) p)
in-order-put y e t hs None None = refl
in-order-put y e t hs None (Some a) = refl
in-order-put y e t hs (Some a) p = refl

pub in_order_by_parts : (s : Supply) (g : Names Ty) (e : Ex) → opened_in_order s g e
    ≡ and_then (comp_parts e) (λ c. and_then (source_parts c.1) (λ q. or_else (option_map (put_listed q.0 c.0 q.2) (matrix_listing s.one q.1))
    (option_map (put_listed q.0 c.0 q.2) (decided_one (picked_members s g q.1)))))
in_order_by_parts s g (comp_ex e (from (name_pat y) t hs)) = in-order-put y e t hs (matrix_listing s.one t) (decided_one (picked_members s g t))
in_order_by_parts s g e = refl

-- The size of a function, by the operand.
pub size_by_operand : (es : Exs) → function_size (node_ex false (unary Op1.Bar) es) ≡ and_then (only_operand es) members_of_first
size_by_operand (more_exs v no_exs) = refl
size_by_operand es = refl
