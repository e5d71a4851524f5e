-- Trees over tables depend on what is there for names alone.
use Rattle.std.proofs.Common.{◌≡◌, refl, ap, ◌∙◌, true, if◌then◌else◌, List, [], ◌∷◌, map, filter}
use Rattle.ess_semantics.specs.declared.words.Op2.{Op2}
use Rattle.ess_semantics.specs.Lists.{append_all}
use Rattle.ess_semantics.specs.Values.{Text}
use Rattle.ess_semantics.specs.Names.{keys}
use Rattle.ess_semantics.specs.Trees.{Ex, truth_ex, no_exs, ex2}
use Rattle.ess_semantics.specs.Plans.{Plan, size_plan, value_plan, is_plan_of}
use Rattle.ess_repr_laws.specs.Structure.{structure}
use Rattle.ess_repr_declare_laws.specs.SizeTerms.{size_terms}
use Rattle.ess_guard_laws.specs.Guard.{has_value, make_total, make_natural}
use Rattle.conjure_model_laws.specs.ToldApart.{reserved, told, told_apart}
use Rattle.conjure_model_laws.specs.Shown.{Shows, shown, view_by, domain_shown}
use Rattle.conjure_model_laws.specs.IsBuiltFrom.{tree_of, constraint_tree, condition_tree, objective_tree, structure_tree, channel_trees}
use Rattle.ess_model_shown.specs.Tables.{SameShows}
use Rattle.ess_model_written.specs.ess_model_finds.Finds.{is_atom, asked_of}
use Rattle.ess_model_shown.proofs.SameShown.{shown-same}
use Rattle.ess_model_declared.proofs.SameDeclared.{same_domain}

pub map-same : {A B : Type 0} (f g : A → B) → ((x : A) → f x ≡ g x) → (xs : List A) → map f xs ≡ map g xs
map-same f g h [] = refl
map-same f g h (x ∷ xs) = ap (λ y. y ∷ map f xs) (h x) ∙ ap (λ l. g x ∷ l) (map-same f g h xs)

module _ (s t : Shows) (h : SameShows s t) where
  -- Structures.
  pub structure-same : (P : Plan) → structure_tree s P ≡ structure_tree t P
  structure-same (size_plan x n) = refl
  structure-same (value_plan f x r d ns) =
      ap (λ c. structure reserved size_terms r c (keys ns) s.next no_exs) (same_domain s t (value_plan f x r d ns) h)
      ∙ ap (λ k. structure reserved size_terms r (domain_shown t (value_plan f x r d ns)) (keys ns) k no_exs) h.next

  asked-same : (P : Plan) → asked_of s P ≡ asked_of t P
  asked-same (size_plan x n) = refl
  asked-same (value_plan f x r d ns) =
      ap (λ e. if is_atom r then truth_ex true else e) (structure-same (value_plan f x r d ns))

  pub structures-same : (Ps : List Plan) → map (asked_of s) Ps ≡ map (asked_of t) Ps
  structures-same Ps = map-same (asked_of s) (asked_of t) asked-same Ps

  view-same : (P : Plan) → view_by (domain_shown s P) P ≡ view_by (domain_shown t P) P
  view-same P = ap (λ c. view_by c P) (same_domain s t P h)

  -- Channels.
  pub channels-same : (Qs : List Plan) → channel_trees s Qs ≡ channel_trees t Qs
  channels-same [] = refl
  channels-same (P ∷ Qs) =
      ap (λ v. map (λ Q. ex2 true Op2.Eq v (view_by (domain_shown s Q) Q)) Qs) (view-same P)
      ∙ map-same (λ Q. ex2 true Op2.Eq (view_by (domain_shown t P) P) (view_by (domain_shown s Q) Q))
      (λ Q. ex2 true Op2.Eq (view_by (domain_shown t P) P) (view_by (domain_shown t Q) Q))
      (λ Q. ap (ex2 true Op2.Eq (view_by (domain_shown t P) P)) (view-same Q)) Qs

  pub all-channels-same : (Ps : List Plan) (xs : List Text)
      → append_all (map (λ x. channel_trees s (filter (is_plan_of x) Ps)) xs) ≡ append_all (map (λ x. channel_trees t (filter (is_plan_of x) Ps)) xs)
  all-channels-same Ps xs =
      ap append_all (map-same (λ x. channel_trees s (filter (is_plan_of x) Ps)) (λ x. channel_trees t (filter (is_plan_of x) Ps))
      (λ x. channels-same (filter (is_plan_of x) Ps)) xs)

  -- Expressions of the specification.
  pub tree-same : (e : Ex) → tree_of s e ≡ tree_of t e
  tree-same e = shown-same s t h (told_apart s.next e) ∙ ap (λ k. shown t (told_apart k e)) h.next

  pub next-same : (e : Ex) → (told e [] s.next).1 ≡ (told e [] t.next).1
  next-same e = ap (λ k. (told e [] k).1) h.next

  pub constraint-same : (e : Ex) → constraint_tree s e ≡ constraint_tree t e
  constraint-same e = ap (make_natural (reserved 0) (reserved 1)) (tree-same e)

  pub condition-same : (e : Ex) → condition_tree s e ≡ condition_tree t e
  condition-same e = ap (has_value (reserved 0) (reserved 1)) (tree-same e)

  pub objective-same : (e : Ex) → objective_tree s e ≡ objective_tree t e
  objective-same e = ap (make_total (reserved 0) (reserved 1)) (tree-same e)
