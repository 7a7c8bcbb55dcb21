-- The faults of files: their numbers and names, and which of them each stage has.
use Rattle.std.specs.Prelude.{ℕ, List, [], codes, Result, Ok, Err}
use Rattle.bq_base.specs.declared.fault.TokenFault.{TokenFault}
use Rattle.bq_base.specs.declared.fault.TokenFault.TheVariants as t
use Rattle.bq_base.specs.declared.fault.StatementFault.{StatementFault}
use Rattle.bq_base.specs.declared.fault.StatementFault.TheVariants as s
use Rattle.bq_base.specs.declared.fault.NameFault.{NameFault}
use Rattle.bq_base.specs.declared.fault.NameFault.TheVariants as n
use Rattle.bq_base.specs.declared.fault.LoadFault.{LoadFault}
use Rattle.bq_base.specs.declared.fault.LoadFault.TheVariants as l
use Rattle.bq_base.specs.declared.fault.EvalFault.{EvalFault}
use Rattle.bq_base.specs.declared.fault.EvalFault.TheVariants as e
use Rattle.bq_base.specs.declared.fault.FaultKind.{FaultKind}
use Rattle.bq_base.specs.declared.fault.FaultKind.TheVariants as f
use Rattle.bq_base.specs.declared.fault.Fault.{Fault}
use Rattle.bq_base.specs.declared.fault.SourceErr.{SourceErr}
use Rattle.bq_base.specs.declared.fault.SourceErr.TheVariants.{Bad, Memory}

-- the number after the `F` of a fault line, and the name after the number
abbrev pub fault_entry : FaultKind → ℕ × List ℕ
fault_entry f.BadByte = (1, codes "BadByte")
fault_entry f.Indent = (2, codes "Indent")
fault_entry f.Tab = (3, codes "Tab")
fault_entry f.OpenString = (4, codes "OpenString")
fault_entry f.Escape = (5, codes "Escape")
fault_entry f.BadInt = (6, codes "BadInt")
fault_entry f.Bracket = (7, codes "Bracket")
fault_entry f.FileTooLong = (8, codes "FileTooLong")
fault_entry f.Syntax = (10, codes "Syntax")
fault_entry f.Nesting = (11, codes "Nesting")
fault_entry f.LeftOut = (12, codes "LeftOut")
fault_entry f.NotInBuild = (13, codes "NotInBuild")
fault_entry f.UnknownName = (20, codes "UnknownName")
fault_entry f.Rebound = (21, codes "Rebound")
fault_entry f.BoundTwice = (22, codes "BoundTwice")
fault_entry f.BadFlow = (23, codes "BadFlow")
fault_entry f.DoubleParameter = (24, codes "DoubleParameter")
fault_entry f.BadLoadLabel = (30, codes "BadLoadLabel")
fault_entry f.NoSuchFile = (31, codes "NoSuchFile")
fault_entry f.NoPackage = (32, codes "NoPackage")
fault_entry f.NoSymbol = (33, codes "NoSymbol")
fault_entry f.PrivateSymbol = (34, codes "PrivateSymbol")
fault_entry f.CycleReached = (35, codes "CycleReached")
fault_entry f.LoadFailed = (36, codes "LoadFailed")
fault_entry f.CrossesPackage = (37, codes "CrossesPackage")
fault_entry f.LoadDepth = (38, codes "LoadDepth")
fault_entry f.WrongType = (40, codes "Type")
fault_entry f.Overflow = (41, codes "Overflow")
fault_entry f.DivZero = (42, codes "DivZero")
fault_entry f.Index = (43, codes "Index")
fault_entry f.NoKey = (44, codes "NoKey")
fault_entry f.Unhashable = (45, codes "Unhashable")
fault_entry f.DoubleKey = (46, codes "DoubleKey")
fault_entry f.Frozen = (47, codes "Frozen")
fault_entry f.Iterating = (48, codes "Iterating")
fault_entry f.Unbound = (49, codes "Unbound")
fault_entry f.Recursion = (50, codes "Recursion")
fault_entry f.CallDepth = (51, codes "CallDepth")
fault_entry f.Args = (52, codes "Args")
fault_entry f.StepLimit = (53, codes "StepLimit")
fault_entry f.TooLong = (54, codes "TooLong")
fault_entry f.TooDeep = (55, codes "TooDeep")
fault_entry f.Fail = (56, codes "Fail")
fault_entry f.BadValue = (57, codes "BadValue")
fault_entry f.NoMethod = (58, codes "NoMethod")
fault_entry f.Format = (59, codes "Format")
fault_entry f.Select = (60, codes "Select")
fault_entry f.NotInPackage = (70, codes "NotInPackage")
fault_entry f.NoAttribute = (71, codes "NoAttribute")
fault_entry f.MissingAttribute = (72, codes "MissingAttribute")
fault_entry f.AttributeType = (73, codes "AttributeType")
fault_entry f.DoubleTarget = (74, codes "DoubleTarget")
fault_entry f.BadName = (75, codes "BadName")
fault_entry f.GlobEmpty = (76, codes "GlobEmpty")
fault_entry f.GlobPattern = (77, codes "GlobPattern")
fault_entry f.BadLabel = (78, codes "BadLabel")
fault_entry f.DanglingLabel = (79, codes "DanglingLabel")
fault_entry f.Schema = (80, codes "Schema")

-- after the `F` of a fault line
abbrev pub fault_number : FaultKind → ℕ
fault_number kind = (fault_entry kind).0

-- after the number
abbrev pub fault_name : FaultKind → List ℕ
fault_name kind = (fault_entry kind).1

-- ---- the stages

-- the faults of tokens, among all
abbrev pub kind_of_token : TokenFault → FaultKind
kind_of_token t.BadByte = f.BadByte
kind_of_token t.Indent = f.Indent
kind_of_token t.Tab = f.Tab
kind_of_token t.OpenString = f.OpenString
kind_of_token t.Escape = f.Escape
kind_of_token t.BadInt = f.BadInt
kind_of_token t.Bracket = f.Bracket
kind_of_token t.FileTooLong = f.FileTooLong

-- those of statements
abbrev pub kind_of_statement : StatementFault → FaultKind
kind_of_statement s.Syntax = f.Syntax
kind_of_statement s.Nesting = f.Nesting
kind_of_statement s.LeftOut = f.LeftOut
kind_of_statement s.NotInBuild = f.NotInBuild

-- those of names and flow
abbrev pub kind_of_name : NameFault → FaultKind
kind_of_name n.Nesting = f.Nesting
kind_of_name n.UnknownName = f.UnknownName
kind_of_name n.Rebound = f.Rebound
kind_of_name n.BoundTwice = f.BoundTwice
kind_of_name n.BadFlow = f.BadFlow
kind_of_name n.DoubleParameter = f.DoubleParameter

-- those of loads
abbrev pub kind_of_load : LoadFault → FaultKind
kind_of_load l.BadLoadLabel = f.BadLoadLabel
kind_of_load l.NoSuchFile = f.NoSuchFile
kind_of_load l.NoPackage = f.NoPackage
kind_of_load l.NoSymbol = f.NoSymbol
kind_of_load l.PrivateSymbol = f.PrivateSymbol
kind_of_load l.CycleReached = f.CycleReached
kind_of_load l.LoadFailed = f.LoadFailed
kind_of_load l.CrossesPackage = f.CrossesPackage
kind_of_load l.LoadDepth = f.LoadDepth

-- those of evaluations
abbrev pub kind_of_eval : EvalFault → FaultKind
kind_of_eval e.CrossesPackage = f.CrossesPackage
kind_of_eval e.WrongType = f.WrongType
kind_of_eval e.Overflow = f.Overflow
kind_of_eval e.DivZero = f.DivZero
kind_of_eval e.Index = f.Index
kind_of_eval e.NoKey = f.NoKey
kind_of_eval e.Unhashable = f.Unhashable
kind_of_eval e.DoubleKey = f.DoubleKey
kind_of_eval e.Frozen = f.Frozen
kind_of_eval e.Iterating = f.Iterating
kind_of_eval e.Unbound = f.Unbound
kind_of_eval e.Recursion = f.Recursion
kind_of_eval e.CallDepth = f.CallDepth
kind_of_eval e.Args = f.Args
kind_of_eval e.StepLimit = f.StepLimit
kind_of_eval e.TooLong = f.TooLong
kind_of_eval e.TooDeep = f.TooDeep
kind_of_eval e.Fail = f.Fail
kind_of_eval e.BadValue = f.BadValue
kind_of_eval e.NoMethod = f.NoMethod
kind_of_eval e.Format = f.Format
kind_of_eval e.Select = f.Select
kind_of_eval e.NotInPackage = f.NotInPackage
kind_of_eval e.NoAttribute = f.NoAttribute
kind_of_eval e.MissingAttribute = f.MissingAttribute
kind_of_eval e.AttributeType = f.AttributeType
kind_of_eval e.DoubleTarget = f.DoubleTarget
kind_of_eval e.BadName = f.BadName
kind_of_eval e.GlobEmpty = f.GlobEmpty
kind_of_eval e.GlobPattern = f.GlobPattern
kind_of_eval e.BadLabel = f.BadLabel

-- the number of a fault of an evaluation
abbrev pub eval_fault_number : EvalFault → ℕ
eval_fault_number fault = fault_number (kind_of_eval fault)

-- ---- faults

-- a fault without detail
abbrev pub fault_at : {K : Type 0} → K → ℕ → Fault K
fault_at kind line = record { kind = kind; line = line; detail = [] }

-- the same fault, as one of another kind: as a fault of a file, say, where it is one of its tokens
abbrev pub fault_as : {K J : Type 0} → (K → J) → Fault K → Fault J
fault_as kind why = record { kind = kind why.kind; line = why.line; detail = why.detail }

-- the same answer, with its fault as one of another kind
abbrev pub or_fault_as : {A K J : Type 0} → (K → J) → Result A (Fault K) → Result A (Fault J)
or_fault_as kind (Ok x) = Ok x
or_fault_as kind (Err why) = Err (fault_as kind why)

-- the same error
abbrev pub err_as : {K J : Type 0} → (K → J) → SourceErr K → SourceErr J
err_as kind (Bad why) = Bad (fault_as kind why)
err_as kind Memory = Memory
