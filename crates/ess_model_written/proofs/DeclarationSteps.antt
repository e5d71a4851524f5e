-- What is written for declared tables, one by one, in scopes that grow.
use Rattle.std.proofs.Common.{◌≡◌, refl, sym, ap, ◌∙◌, subst, ℕ, ◌+◌, ◌<◌, ◌≤◌, Bool, List, [], ◌∷◌, ◌++◌, length, map, take, drop, get_or}
use Rattle.std.proofs.lemmas.List.{take_more, drop_more, take-append-drop, map_push, map-append, take_all}
use Rattle.ess_semantics.specs.Meaning.{is_bool_dom}
use Rattle.ess_semantics.specs.Values.{Text}
use Rattle.ess_semantics.specs.DeclaredTables.{TableDecl}
use Rattle.ess_grammar.specs.Models.{Scope, scope_behind}
use Rattle.ess_declared_trees.specs.declared.tables.Declared.{Declared}
use Rattle.ess_declared_trees.specs.TableViews.{pure_declared}
use Rattle.eprime_tree.specs.declared.models.PDecl.{PDecl}
use Rattle.eprime_tree.specs.Views.{pure_decl, pure_decls, pure_dom}
use Rattle.eprime_read_convert.specs.declared.lines.Line.{Line}
use Rattle.eprime_read_convert.specs.Lines.{scope_of}
use Rattle.ess_model_written.specs.DeclarationsWritten.{DeclIsWritten, DeclFails, adding}
use Rattle.ess_model_written.specs.Coming.{DeclsAreWritten, none_written, one_written, OneDeclFails}
use Rattle.ess_model_written.proofs.LineLaws.{line_added}

-- ---- one behind the others

behind-push : (add : Scope → TableDecl → Scope) (s : Scope) (ts : List TableDecl) (t : TableDecl) →
    scope_behind add s (ts ++ t ∷ []) ≡ add (scope_behind add s ts) t
behind-push add s [] t = refl
behind-push add s (x ∷ ts) t = behind-push add (add s x) ts t

decls-push : (add : Scope → TableDecl → Scope) (s : Scope) (ds : List PDecl) (d : PDecl) →
    pure_decls add s (ds ++ d ∷ []) ≡ pure_decls add s ds ++ pure_decl (scope_behind add s (pure_decls add s ds)) d ∷ []
decls-push add s [] d = refl
decls-push add s (x ∷ ds) d = ap (λ l. pure_decl s x ∷ l) (decls-push add (add s (pure_decl s x)) ds d)

written-push : (add : Scope → TableDecl → Scope) (taken : List Text) (k : ℕ) (s : Scope) (ts us : List TableDecl) (t u : TableDecl) →
    DeclsAreWritten add taken k s ts us → DeclIsWritten (scope_behind add s us) taken k t u →
    DeclsAreWritten add taken k s (ts ++ t ∷ []) (us ++ u ∷ [])
written-push add taken k s [] [] t u none_written p = one_written p none_written
written-push add taken k s [] (y ∷ us) t u w p = elim w [ ]
written-push add taken k s (x ∷ ts) [] t u w p = elim w [ ]
written-push add taken k s (x ∷ ts) (y ∷ us) t u (one_written q w) p = one_written q (written-push add taken k (add s y) ts us t u w p)

-- ---- the loop

module _ (found : Bool) (taken : List Text) (k : ℕ) (s : Scope) where
  -- These declarations are written for those tables, and the lines declare what they do.
  pub record WrittenFor (ts : List Declared) (ds : List PDecl) (ls : List Line) : Type 0 where
    pub written : DeclsAreWritten (adding found) taken k s (map pure_declared ts) (pure_decls (adding found) s ds)
    pub behind : scope_of ls ≡ scope_behind (adding found) s (pure_decls (adding found) s ds)

  -- At first there are none.
  pub none_declared : (ls : List Line) → scope_of ls ≡ s → WrittenFor [] [] ls
  none_declared ls e = record { written = none_written; behind = e }

  -- One declaration more.
  pub declaration_more : (ts : List Declared) (i : ℕ) (t : Declared) (d : PDecl) (done new : List PDecl) (l : Line) (ls ms : List Line)
      → i < length ts → t ≡ get_or ts i t → DeclIsWritten (scope_of ls) taken k (pure_declared t) (pure_decl (scope_of ls) d)
      → new ≡ done ++ d ∷ [] → ms ≡ ls ++ l ∷ [] → l.name ≡ d.name → ((c : Scope) → l.truth ≡ is_bool_dom (pure_dom c d.cell))
      → l.found ≡ found → WrittenFor (take i ts) done ls → WrittenFor (take (i + 1) ts) new ms
  declaration_more ts i t d done new l ls ms lt is p n m a b f h =
      let add : Scope → TableDecl → Scope = adding found in
      let us : List TableDecl = pure_decls add s done in
      let more : map pure_declared (take (i + 1) ts) ≡ map pure_declared (take i ts) ++ pure_declared t ∷ [] =
      ap (map pure_declared) (take_more ts i t lt ∙ ap (λ x. take i ts ++ x ∷ []) (sym is)) ∙ map_push pure_declared (take i ts) t in
      let longer : pure_decls add s new ≡ us ++ pure_decl (scope_behind add s us) d ∷ [] =
      ap (pure_decls add s) n ∙ decls-push add s done d in
      let here : DeclIsWritten (scope_behind add s us) taken k (pure_declared t) (pure_decl (scope_behind add s us) d) =
      subst (λ c. DeclIsWritten c taken k (pure_declared t) (pure_decl c d)) h.behind p in
      record {
        written = subst (λ x. DeclsAreWritten add taken k s x (pure_decls add s new)) (sym more)
            (subst (λ x. DeclsAreWritten add taken k s (map pure_declared (take i ts) ++ pure_declared t ∷ []) x) (sym longer)
            (written-push add taken k s (map pure_declared (take i ts)) us (pure_declared t) (pure_decl (scope_behind add s us) d)
            h.written here));
        behind = ap scope_of m ∙ line_added found ls l (pure_decl (scope_of ls) d) a (b (scope_of ls)) f
            ∙ ap (λ c. add c (pure_decl c d)) h.behind ∙ sym (behind-push add s us (pure_decl (scope_behind add s us) d))
            ∙ ap (scope_behind add s) (sym longer);
      }

  -- All of them.
  pub all_declared : (ts : List Declared) (i : ℕ) (ds : List PDecl) (ls : List Line) → length ts ≤ i → WrittenFor (take i ts) ds ls
      → DeclsAreWritten (adding found) taken k s (map pure_declared ts) (pure_decls (adding found) s ds)
      × (scope_of ls ≡ scope_behind (adding found) s (pure_decls (adding found) s ds))
  all_declared ts i ds ls h p = (
    subst (λ l. DeclsAreWritten (adding found) taken k s (map pure_declared l) (pure_decls (adding found) s ds)) (take_all i ts h)
        p.written,
    p.behind,
  )

  -- Nothing is written for one.
  pub declaration_fails : (ts : List Declared) (i : ℕ) (t : Declared) (ds : List PDecl) (ls : List Line) → i < length ts → t ≡ get_or ts i t
      → DeclFails (scope_of ls) taken k (pure_declared t) → WrittenFor (take i ts) ds ls
      → OneDeclFails (adding found) taken k s (map pure_declared ts)
  declaration_fails ts i t ds ls lt is p h =
      let split : ts ≡ take i ts ++ t ∷ drop (i + 1) ts =
      sym (take-append-drop i ts) ∙ ap (λ l. take i ts ++ l) (drop_more ts i t lt ∙ ap (λ x. x ∷ drop (i + 1) ts) (sym is)) in
      record {
        first = map pure_declared (take i ts);
        before = pure_decls (adding found) s ds;
        failing = pure_declared t;
        rest = map pure_declared (drop (i + 1) ts);
        all = ap (map pure_declared) split ∙ map-append pure_declared (take i ts) (t ∷ drop (i + 1) ts);
        written = h.written;
        fails = subst (λ c. DeclFails c taken k (pure_declared t)) h.behind p;
      }

-- The steps of the loop that search finds.
pub ruleset declaration_steps = (none_declared, declaration_fails, all_declared)
