-- A pattern that fits a type binds, at a value of the type, values of the types of its names.
use Rattle.std.proofs.Common.{◌≡◌, subst, Bool, true, false, if◌then◌else◌, List, [], ◌∷◌, Some}
use Rattle.ess_semantics.specs.Values.{Text, a_tuple, Value, to_list, tuple}
use Rattle.ess_semantics.specs.Order.{same_text}
use Rattle.ess_semantics.specs.Names.{Names, look}
use Rattle.ess_semantics.specs.Trees.{Pat, Pats, name_pat, tuple_pat, no_pats, more_pats}
use Rattle.ess_semantics.specs.Types.{Ty, Tys, compound, no_tys, more_tys, bind_types, bind_all_types}
use Rattle.ess_semantics.specs.ExpressionJudgements.{pattern_fits, patterns_fit}
use Rattle.ess_semantics.specs.Meaning.{TypeEntry, bind, bind_all}
use Rattle.ess_semantics.specs.TypeMembers.{is_of, are_of}
use Rattle.ess_semantics.proofs.Tests.{and-left, and-right}
use Rattle.ess_types_laws.proofs.Joins.{Of}

module _ (p : Bool) (es : List TypeEntry) where
  -- Each name of g that has a value has one of its type.
  abbrev pub ValuesFit : Names Ty → Names Value → Type 0
  ValuesFit g vals = (a : Text) (t : Ty) (v : Value) → look g a ≡ Some t → look vals a ≡ Some v → Of p es t v

  name-fits : (a : Text) (t : Ty) (v : Value) (g : Names Ty) (vals : Names Value) → Of p es t v → ValuesFit g vals →
      ValuesFit ((a, t) ∷ g) ((a, v) ∷ vals)
  name-fits a t v g vals o f c u w q r = go (same_text a c) q r
    where
      go : (b : Bool) → (if b then Some t else look g c) ≡ Some u → (if b then Some v else look vals c) ≡ Some w → Of p es u w
      go true q r = let x : t ≡ u = cc in let y : v ≡ w = cc in subst (λ x. Of p es x w) x (subst (λ y. Of p es t y) y o)
      go false q r = f c u w q r

  mutual
    -- A pattern that fits binds values of the types of its names.
    pub bind-fits : (x : Pat) (t : Ty) (v : Value) (g : Names Ty) (vals : Names Value) → pattern_fits x t ≡ true → Of p es t v →
        ValuesFit g vals →
        ValuesFit (bind_types x t g) (bind x v vals)
    bind-fits (name_pat a) t v g vals h o f = name-fits a t v g vals o f
    bind-fits (tuple_pat ps) (compound a_tuple ts) (tuple vs) g vals h o f = all-fit ps ts (to_list vs) g vals h o f
    bind-fits (tuple_pat ps) _ v g vals h o f = cc

    all-fit : (ps : Pats) (ts : Tys) (vs : List Value) (g : Names Ty) (vals : Names Value) → patterns_fit ps ts ≡ true →
        are_of p es ts vs ≡ true → ValuesFit g vals →
        ValuesFit (bind_all_types ps ts g) (bind_all ps vs vals)
    all-fit no_pats no_tys vs g vals h o f = f
    all-fit (more_pats x ps) (more_tys t ts) (v ∷ vs) g vals h o f =
        all-fit ps ts vs (bind_types x t g) (bind x v vals) (and-right (pattern_fits x t) (patterns_fit ps ts) h)
        (and-right (is_of p es t v) (are_of p es ts vs) o)
        (bind-fits x t v g vals (and-left (pattern_fits x t) (patterns_fit ps ts) h) (and-left (is_of p es t v) (are_of p es ts vs) o) f)
    all-fit (more_pats x ps) (more_tys t ts) [] g vals h o f = cc
    all-fit no_pats (more_tys t ts) vs g vals h o f = cc
    all-fit (more_pats x ps) no_tys vs g vals h o f = cc
