-- What a call does that ends early, and what a run over a bundle's workspace is.
use Rattle.std.proofs.Common.{◌≡◌, ◌⊎◌, ℕ, List, [], Option, None, Some, Result, Err, inl, inr, refl, subst, sym}
use Rattle.std.specs.Prelude.{IfSome}
use Rattle.std.specs.Io.KnownBytes.{Keeps}
use Rattle.bq_label.specs.declared.workspace.File.{File}
use Rattle.bq_run_write.specs.declared.ending.Status.{Status}
use Rattle.bq_run.specs.Bundle.{bundle_within}
use Rattle.bq_run_write.specs.Deeds.{Run, DoesOne}
use Rattle.bq_run.specs.Run.{IsRunOf, IsRunOver}
use Rattle.bq_run_write.specs.declared.error.RunErr.{RunErr}
use Rattle.bq_run_write.specs.declared.error.RunErr.TheVariants as run
use Rattle.bq_run.specs.declared.options.Options.{Options}
use Rattle.bq_run.proofs.Bundles.{holds, holds_none}
use Rattle.bq_run_device.proofs.Transfers.{Appends-none}

keeps_itself : (known : Option (List ℕ)) → Keeps known known
keeps_itself None = tt
keeps_itself (Some xs) = refl

module _ (f a : Option (List ℕ)) where
  pub no_memory : (IsIt : Run → Type 0) → DoesOne IsIt (Err run.Memory) f f a a
  no_memory IsIt = DoesOne.gave_up (inl refl) (keeps_itself f) (keeps_itself a)

  failed_reader : (IsIt : Run → Type 0) → DoesOne IsIt (Err run.Read) f f a a
  failed_reader IsIt = DoesOne.gave_up (inr refl) (keeps_itself f) (keeps_itself a)

  refused_bundle : (o : Options) (input : List ℕ) → bundle_within o.limits input ≡ None → DoesOne (IsRunOf o input) (Err run.Bundle) f f a a
  refused_bundle o input none =
      let what : Run = record { faults = []; answer = []; end = Err run.Bundle } in
      DoesOne.ran what (IsRunOf.no_bundle (holds_none o.limits input none) refl) (record { ends = refl; writes = (Appends-none f, Appends-none a) })

  -- the bundle was not read
  pub not_read : (o : Options) (input : List ℕ) (e : RunErr) → (e ≡ run.Bundle → bundle_within o.limits input ≡ None) → (e ≡ run.Bundle) ⊎ ((e ≡ run.Memory) ⊎ (e ≡ run.Read))
      → DoesOne (IsRunOf o input) (Err e) f f a a
  not_read o input e none which =
      elim which [
        | inl b ↦ subst (λ (x : RunErr). DoesOne (IsRunOf o input) (Err x) f f a a) (sym b) (refused_bundle o input (none b))
        | inr other ↦ elim other [
          | inl m ↦ subst (λ (x : RunErr). DoesOne (IsRunOf o input) (Err x) f f a a) (sym m) (no_memory (IsRunOf o input))
          | inr r ↦ subst (λ (x : RunErr). DoesOne (IsRunOf o input) (Err x) f f a a) (sym r) (failed_reader (IsRunOf o input))
        ]
      ]

  -- the same where the bytes are known
  pub not_read_if : (o : Options) (known : Option (List ℕ)) (e : RunErr) → (e ≡ run.Bundle → IfSome known (λ input. bundle_within o.limits input ≡ None)) → (e ≡ run.Bundle) ⊎ ((e ≡ run.Memory) ⊎ (e ≡ run.Read))
      → IfSome known (λ input. DoesOne (IsRunOf o input) (Err e) f f a a)
  not_read_if o None e none which = tt
  not_read_if o (Some input) e none which = not_read o input e none which

-- a run over the workspace of a bundle is a run over the bundle
pub of_bundle : (o : Options) (input : List ℕ) (files : List File) (result : Result Status RunErr) (f f' a a' : Option (List ℕ)) → bundle_within o.limits input ≡ Some files
    → DoesOne (IsRunOver o files) result f f' a a' → DoesOne (IsRunOf o input) result f f' a a'
of_bundle o input files result f f' a a' there (DoesOne.gave_up given k l) = DoesOne.gave_up given k l
of_bundle o input files result f f' a a' there (DoesOne.ran what over does) = DoesOne.ran what (IsRunOf.bundle files (holds o.limits input files there) over) does

pub of_bundle_if : (o : Options) (known : Option (List ℕ)) (files : List File) (result : Result Status RunErr) (f f' a a' : Option (List ℕ)) → IfSome known (λ input. bundle_within o.limits input ≡ Some files)
    → DoesOne (IsRunOver o files) result f f' a a' → IfSome known (λ input. DoesOne (IsRunOf o input) result f f' a a')
of_bundle_if o None files result f f' a a' there does = tt
of_bundle_if o (Some input) files result f f' a a' there does = of_bundle o input files result f f' a a' there does
