use Rattle.std.proofs.Common.{◌≡◌, ◌++◌, drop}
use Rattle.std.specs.Prelude.{IfSome}
use Rattle.bq_label.specs.Workspace.{paths_of}
use Rattle.bq_label_glob.specs.Names.{OwnsNothingBeneath, glob}
use Rattle.bq_label_glob.proofs.names.glob.Given as goal

-- what the files that are left give, after what is given, is what all give; and the package owns nothing in the other's directory
abbrev pub invariant-loop-file : goal.invariant-loop-file
invariant-loop-file l =
    (l.names.items ++ glob (paths_of (drop l.file-index l.files)) l.packages l.id l.include l.exclude ≡ glob (paths_of l.workspace) l.packages l.id l.include l.exclude)
    × IfSome l.other (λ d. OwnsNothingBeneath l.packages l.id d.items)
