-- What declared domains denote under givens and their tables.
use Rattle.std.proofs.Common.{◌≡◌, sym, ap, ◌∙◌, Bool, true, List, [], ◌++◌, append-nil, map, Option, Some, ℤ}
use Rattle.std.proofs.Common.{Result, Ok, Err}
use Rattle.std.specs.Result.{IsErrAnd}
use Rattle.eprime_eval.specs.declared.closing.EvalNo.{EvalNo}
use Rattle.ess_semantics.specs.Names.{Names}
use Rattle.ess_semantics.specs.Tables as pure
use Rattle.ess_semantics.specs.Domains.{Domain}
use Rattle.ess_semantics.specs.DeclaredTables.{TableDecl, axis_members}
use Rattle.ess_semantics.specs.ModelMeaning.{model_domain}
use Rattle.ess_semantics.specs.LargeModels.{dom_is_large}
use Rattle.ess_grammar.specs.Models.{Scope, empty_scope, with_given}
use Rattle.ess_core.specs.declared.tables.Cells.{Cells}
use Rattle.ess_core.specs.TableViews.{pure_cells, pure_named_table}
use Rattle.eprime_tree.specs.declared.models.PDecl.{PDecl}
use Rattle.eprime_tree.specs.declared.expressions.PDom.{PDom}
use Rattle.eprime_tree.specs.Views.{pure_dom}
use Rattle.eprime_eval_kinds.specs.Shapes.{decl_shape, shape_of}
use Rattle.eprime_eval_kinds.proofs.DeclaredShapes.{shapes_of_decls}
use Rattle.eprime_eval.specs.declared.under.Under.{Under}
use Rattle.eprime_eval.specs.declared.members.Closed.{Closed}
use Rattle.eprime_eval.specs.ClosedDomains.{pure_closed}
use Rattle.eprime_eval.specs.UnderTables.{IsUnder}
use Rattle.eprime_eval.specs.DomainsOf.{given_decls, Denotes, HasMembers, HasLargeBound, IsItem, AreRunsOf}
use Rattle.ess_semantics.specs.Domains.{Span}
use Rattle.ess_semantics.specs.Tables.{is_cell}
use Rattle.ess_semantics.specs.Satisfaction.{AreRuns}

-- An error that goes up as it is.
pub same_stop : {T : Type 0} (r : Result T EvalNo) (cause stop : EvalNo) → IsErrAnd r (λ up. up ≡ cause) → r ≡ Err stop → cause ≡ stop
same_stop (Ok x) cause stop is e = cc
same_stop (Err up) cause stop is e = let same : up ≡ stop = cc in sym is ∙ same

given-under : (u : Under) (ks : List PDecl) (q : Cells) → IsUnder u (map decl_shape (ks ++ [])) (map pure_named_table (q.list ++ []))
    → IsUnder u (map shape_of (given_decls ks)) (pure_cells q)
given-under u ks q h =
    let a : map decl_shape (ks ++ []) ≡ map shape_of (given_decls ks) = ap (map decl_shape) (append-nil ks) ∙ sym (shapes_of_decls with_given empty_scope ks) in
    let b : map pure_named_table (q.list ++ []) ≡ pure_cells q = ap (map pure_named_table) (append-nil q.list) in
    rw (← a, ← b) h

-- What a domain denotes under givens and their tables.
pub denoted : (u : Under) (ks : List PDecl) (q : Cells) (d : PDom) (x : Option Domain) → IsUnder u (map decl_shape (ks ++ [])) (map pure_named_table (q.list ++ []))
    → ((ds : List TableDecl) (s : Scope) (c : Names pure.Table) → IsUnder u (map shape_of ds) c → model_domain ds c (pure_dom s d) ≡ x)
    → Denotes ks q d x
denoted u ks q d x h f = λ s. f (given_decls ks) s (pure_cells q) (given-under u ks q h)

pub denoted_large : (u : Under) (ks : List PDecl) (q : Cells) (d : PDom) → IsUnder u (map decl_shape (ks ++ [])) (map pure_named_table (q.list ++ []))
    → ((ds : List TableDecl) (s : Scope) (c : Names pure.Table) → IsUnder u (map shape_of ds) c → dom_is_large ds c (pure_dom s d) ≡ true)
    → HasLargeBound ks q d
denoted_large u ks q d h f = λ s. f (given_decls ks) s (pure_cells q) (given-under u ks q h)

-- The members of an axis.
pub members_there : (ks : List PDecl) (q : Cells) (d : PDom) (r : Closed) (o : Option (List ℤ)) → Denotes ks q d (Some (pure_closed r))
    → o ≡ axis_members (Some (pure_closed r)) → HasMembers ks q d o
members_there ks q d r o h e = λ s. ap axis_members (h s) ∙ sym e

-- An item that was tested.
pub item_there : (ks : List PDecl) (q : Cells) (d : PDom) (r : Closed) (n : ℤ) (b : Bool) → Denotes ks q d (Some (pure_closed r)) → b ≡ is_cell (pure_closed r) n
    → IsItem ks q d n b
item_there ks q d r n b h e = record { domain = pure_closed r; denoted = h; is_member = sym e }

-- The runs that were found.
pub runs_there : (ks : List PDecl) (q : Cells) (d : PDom) (r : Closed) (rs : List Span) → Denotes ks q d (Some (pure_closed r)) → AreRuns rs (pure_closed r)
    → AreRunsOf ks q d rs
runs_there ks q d r rs h e = record { domain = pure_closed r; denoted = h; are_runs = e }

pub ruleset denotings = (denoted, denoted_large)
