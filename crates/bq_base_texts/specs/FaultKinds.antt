-- All faults, and the word by which a line names each.
use Rattle.std.specs.Prelude.{◌≡◌, List, ℕ, [], ◌∷◌, ◌++◌, Option, Some, codes, bytes_eq, refl}
use Rattle.std.specs.Fmt.{decimal, digits}
use Rattle.std.specs.List.{find}
use Rattle.bq_base.specs.Fault.{fault_number}
use Rattle.bq_base.specs.declared.fault.FaultKind.{FaultKind}
use Rattle.bq_base.specs.declared.fault.FaultKind.TheVariants as f

-- as `F47`
abbrev pub fault_word : FaultKind → List ℕ
fault_word kind = codes "F" ++ decimal (fault_number kind)

-- all faults, by their numbers
abbrev pub kinds : List FaultKind
kinds =
    f.BadByte ∷ f.Indent ∷ f.Tab ∷ f.OpenString ∷ f.Escape ∷ f.BadInt ∷
    f.Bracket ∷ f.FileTooLong ∷ f.Syntax ∷ f.Nesting ∷ f.LeftOut ∷ f.NotInBuild ∷
    f.UnknownName ∷ f.Rebound ∷ f.BoundTwice ∷ f.BadFlow ∷ f.DoubleParameter ∷ f.BadLoadLabel ∷
    f.NoSuchFile ∷ f.NoPackage ∷ f.NoSymbol ∷ f.PrivateSymbol ∷ f.CycleReached ∷ f.LoadFailed ∷
    f.CrossesPackage ∷ f.LoadDepth ∷ f.WrongType ∷ f.Overflow ∷ f.DivZero ∷ f.Index ∷
    f.NoKey ∷ f.Unhashable ∷ f.DoubleKey ∷ f.Frozen ∷ f.Iterating ∷ f.Unbound ∷
    f.Recursion ∷ f.CallDepth ∷ f.Args ∷ f.StepLimit ∷ f.TooLong ∷ f.TooDeep ∷
    f.Fail ∷ f.BadValue ∷ f.NoMethod ∷ f.Format ∷ f.Select ∷ f.NotInPackage ∷
    f.NoAttribute ∷ f.MissingAttribute ∷ f.AttributeType ∷ f.DoubleTarget ∷ f.BadName ∷ f.GlobEmpty ∷
    f.GlobPattern ∷ f.BadLabel ∷ f.DanglingLabel ∷ f.Schema ∷ []

-- the first of these that the word names
unfoldable pub first_called : List ℕ → List FaultKind → Option FaultKind
first_called word kinds = find (λ kind. bytes_eq word (fault_word kind)) kinds

-- the fault that a word names
abbrev pub fault_called : List ℕ → Option FaultKind
fault_called word = first_called word kinds

-- each fault is among them, and no two have one word
pub each_is_called : (kind : FaultKind) → fault_called (fault_word kind) ≡ Some kind
unfolding first_called digits
each_is_called f.BadByte = refl
each_is_called f.Indent = refl
each_is_called f.Tab = refl
each_is_called f.OpenString = refl
each_is_called f.Escape = refl
each_is_called f.BadInt = refl
each_is_called f.Bracket = refl
each_is_called f.FileTooLong = refl
each_is_called f.Syntax = refl
each_is_called f.Nesting = refl
each_is_called f.LeftOut = refl
each_is_called f.NotInBuild = refl
each_is_called f.UnknownName = refl
each_is_called f.Rebound = refl
each_is_called f.BoundTwice = refl
each_is_called f.BadFlow = refl
each_is_called f.DoubleParameter = refl
each_is_called f.BadLoadLabel = refl
each_is_called f.NoSuchFile = refl
each_is_called f.NoPackage = refl
each_is_called f.NoSymbol = refl
each_is_called f.PrivateSymbol = refl
each_is_called f.CycleReached = refl
each_is_called f.LoadFailed = refl
each_is_called f.CrossesPackage = refl
each_is_called f.LoadDepth = refl
each_is_called f.WrongType = refl
each_is_called f.Overflow = refl
each_is_called f.DivZero = refl
each_is_called f.Index = refl
each_is_called f.NoKey = refl
each_is_called f.Unhashable = refl
each_is_called f.DoubleKey = refl
each_is_called f.Frozen = refl
each_is_called f.Iterating = refl
each_is_called f.Unbound = refl
each_is_called f.Recursion = refl
each_is_called f.CallDepth = refl
each_is_called f.Args = refl
each_is_called f.StepLimit = refl
each_is_called f.TooLong = refl
each_is_called f.TooDeep = refl
each_is_called f.Fail = refl
each_is_called f.BadValue = refl
each_is_called f.NoMethod = refl
each_is_called f.Format = refl
each_is_called f.Select = refl
each_is_called f.NotInPackage = refl
each_is_called f.NoAttribute = refl
each_is_called f.MissingAttribute = refl
each_is_called f.AttributeType = refl
each_is_called f.DoubleTarget = refl
each_is_called f.BadName = refl
each_is_called f.GlobEmpty = refl
each_is_called f.GlobPattern = refl
each_is_called f.BadLabel = refl
each_is_called f.DanglingLabel = refl
each_is_called f.Schema = refl
