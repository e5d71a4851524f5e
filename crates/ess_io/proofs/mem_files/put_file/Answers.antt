-- An insertion into the map is one into its tree.
use Rattle.std.proofs.Common.{◌≡◌, ◌∙◌, ap, string_bytes}
use Rattle.std.specs.FinMap.{insert}
use Rattle.std.proofs.lemmas.Result.{IfOk-at_ok}
use Rattle.ess_io.specs.MemoryFiles.{tree_of}
use Rattle.ess_io.proofs.Entries.{tree_of-insert}
use Rattle.ess_io.proofs.mem_files.put_file.Goals as goal

pub returns-clause-ok : goal.returns-clause-ok
returns-clause-ok c =
    let named = IfOk-at_ok (λ key. string_bytes key ≡ c.args.name.now) c.in_ok-key.was c.from_str.ensures.ok in
    let held = IfOk-at_ok (λ value. value.items ≡ c.args.bytes.now) c.in_ok-value.was c.from_slice.ensures.items in
    tree_of-insert (string_bytes c.in_ok-key.key) c.in_ok-value.value c.args.files.now c.insert.new.self c.in_ok-insert.ensures.updates
    ∙ ap (λ name. insert (tree_of c.args.files.now) name c.in_ok-value.value.items) named
    ∙ ap (λ bytes. insert (tree_of c.args.files.now) c.args.name.now bytes) held
