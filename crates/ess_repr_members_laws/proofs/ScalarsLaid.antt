-- The layers of atoms, tuples, records and matrices.
use Rattle.std.proofs.Common.{◌≡◌, refl, sym, ap, ◌∙◌, subst, Bool, true, false, List, [], ◌∷◌, ◌++◌, map, codes, pos, Some, option_map}
use Rattle.ess_semantics.specs.declared.words.ReprKind.{ReprKind}
use Rattle.ess_semantics.specs.Values.{Text}
use Rattle.ess_semantics.specs.Domains.{Domain, booleans, integers, tuples, records, matrices, between}
use Rattle.ess_semantics.specs.Membership.{no_negative_attribute, each_layer_of_all}
use Rattle.ess_semantics.specs.Kinds.{dom_list, are_atoms}
use Rattle.ess_semantics.specs.Trees.{Ends, Exs, no_exs, more_exs, both_ends, Dom, Doms, bool_dom, int_dom, name_dom, tuple_dom, record_dom, matrix_dom, no_doms, more_doms}
use Rattle.ess_semantics.specs.ScalarLayers.{atom_layer, tuple_layer, record_layer, matrix_layer}
use Rattle.ess_semantics.specs.Meaning.{Env, meanings, spans_of, domain_of, domains_of}
use Rattle.ess_semantics.proofs.Tests.{and-right}
use Rattle.ess_repr_laws.specs.StructureParts.{upto}
use Rattle.ess_repr_declare_laws.specs.SizeTerms.{one_ex, listed_ex}
use Rattle.ess_repr_declare_laws.specs.DeclaredTrees.{widened_if}
use Rattle.ess_repr_declare_laws.proofs.SizeNumbers.{mapped, chained, not_below}
use Rattle.ess_repr_declare_laws.proofs.ChildDomainsDenoted.{only, several}
use Rattle.ess_repr_members_laws.specs.Fields.{are_paired, Fielded, AllFielded}
use Rattle.ess_repr_members_laws.proofs.AtomAxes.{named-as, upto-denotes, values-read, atom-axes}
use Rattle.ess_repr_members_laws.proofs.SizeDomains.{wide_if, widened_if-denotes}
use Rattle.ess_repr_members_laws.proofs.LayerParts.{all-plain, each-fielded, Paired, numbered-paired, LaidOut}

-- ---- atoms

-- bool stays bool.
bool-widened : (env : Env) (out : Bool) → domain_of (widened_if out bool_dom) env ≡ Some (wide_if out booleans)
bool-widened env true = refl
bool-widened env false = refl

pub bool-laid : (env : Env) (e : Domain) → domain_of bool_dom env ≡ Some e → LaidOut env ReprKind.Atom bool_dom e
bool-laid env e h =
    let q : booleans ≡ e = cc in
    subst (LaidOut env ReprKind.Atom bool_dom) q (record {
      over = atom_layer booleans;
      there = refl;
      own = λ out. (refl, bool-widened env out, tt);
      axes = refl;
      frees = refl;
      children = refl;
      plain = tt;
      fielded = tt;
      named = tt;
    })

-- Numbers, and positions of a named type.
pub int-laid : (env : Env) (rs : List Ends) (es : Exs) (e : Domain) → domain_of (int_dom rs es) env ≡ Some e →
    LaidOut env ReprKind.Atom (int_dom rs es) e
int-laid env rs es e h =
    let m = mapped integers (spans_of rs (meanings es env)) e h in
    subst (LaidOut env ReprKind.Atom (int_dom rs es)) m.2 (record {
      over = atom_layer (integers m.0);
      there = refl;
      own = λ out. (refl, widened_if-denotes env out rs es (integers m.0) (ap (option_map integers) m.1), tt);
      axes = refl;
      frees = refl;
      children = refl;
      plain = tt;
      fielded = tt;
      named = tt;
    })

pub name-laid : (env : Env) (a : Text) (e : Domain) → domain_of (name_dom a) env ≡ Some e → LaidOut env ReprKind.Atom (name_dom a) e
name-laid env a e h =
    let k = named-as env a e h in
    let u : domain_of (upto (listed_ex (name_dom a))) env ≡ Some (between (pos 1) (pos k.0)) =
    upto-denotes env (listed_ex (name_dom a)) k.0 (values-read env a e k.0 h k.1) in
    record {
      over = atom_layer e;
      there = k.1.layered;
      own = λ out. (
        refl,
        widened_if-denotes env out (both_ends ∷ []) (more_exs one_ex (more_exs (listed_ex (name_dom a)) no_exs))
            (between (pos 1) (pos k.0)) u
            ∙ ap (λ x. Some (wide_if out x)) (sym k.1.celled),
        tt,
      );
      axes = refl;
      frees = refl;
      children = refl;
      plain = tt;
      fielded = tt;
      named = tt;
    }

-- ---- tuples, records and matrices

pub tuple-laid : (env : Env) (ts : Doms) (e : Domain) → AllFielded ts → domain_of (tuple_dom ts) env ≡ Some e →
    no_negative_attribute e ≡ true →
    LaidOut env ReprKind.Tuple (tuple_dom ts) e
tuple-laid env ts e g h n =
    let m = mapped tuples (domains_of ts env) e h in
    subst (LaidOut env ReprKind.Tuple (tuple_dom ts)) m.2 (record {
      over = tuple_layer m.0;
      there = refl;
      own = λ out. tt;
      axes = refl;
      frees = refl;
      children = several ts env m.0 m.1;
      plain = all-plain m.0 (ap no_negative_attribute m.2 ∙ n);
      fielded = each-fielded ts g;
      named = numbered-paired 1 (dom_list ts);
    })

fields-paired : (fs : List Text) (ts : Doms) → are_paired fs ts ≡ true → Paired (map (λ f. (codes "_" ++ f, 0)) fs) (dom_list ts)
fields-paired [] no_doms h = tt
fields-paired [] (more_doms d ts) h = cc
fields-paired (f ∷ fs) no_doms h = cc
fields-paired (f ∷ fs) (more_doms d ts) h = fields-paired fs ts h

pub record-laid : (env : Env) (fs : List Text) (ts : Doms) (e : Domain) → Fielded (record_dom fs ts) →
    domain_of (record_dom fs ts) env ≡ Some e →
    no_negative_attribute e ≡ true → LaidOut env ReprKind.Rec (record_dom fs ts) e
record-laid env fs ts e g h n =
    let m = mapped (records fs) (domains_of ts env) e h in
    subst (LaidOut env ReprKind.Rec (record_dom fs ts)) m.2 (record {
      over = record_layer fs m.0;
      there = refl;
      own = λ out. tt;
      axes = refl;
      frees = refl;
      children = several ts env m.0 m.1;
      plain = all-plain m.0 (ap no_negative_attribute m.2 ∙ n);
      fielded = each-fielded ts g.1;
      named = fields-paired fs ts g.0;
    })

pub matrix-laid : (env : Env) (is : Doms) (d : Dom) (e : Domain) → are_atoms is ≡ true → Fielded d →
    domain_of (matrix_dom is d) env ≡ Some e →
    no_negative_attribute e ≡ true → LaidOut env ReprKind.Matrix (matrix_dom is d) e
matrix-laid env is d e a g h n =
    let c = chained (domains_of is env) (λ js. option_map (matrices js) (domain_of d env)) e h in
    let m = mapped (matrices c.0) (domain_of d env) e c.2 in
    subst (LaidOut env ReprKind.Matrix (matrix_dom is d)) m.2 (record {
      over = matrix_layer c.0 m.0;
      there = refl;
      own = λ out. tt;
      axes = atom-axes env is c.0 a c.1;
      frees = refl;
      children = only d env m.0 m.1;
      plain = (and-right (each_layer_of_all not_below c.0) (no_negative_attribute m.0) (ap no_negative_attribute m.2 ∙ n), tt);
      fielded = (g, tt);
      named = tt;
    })
