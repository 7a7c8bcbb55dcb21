-- How the value of each type of attributes is taken (Bazel, "attr"), and its JSON. A type has its lines here, and its value those in
-- `Value.antt` of bq_value_datum; nothing else speaks of one type alone.
use Rattle.std.specs.Prelude.{◌≡◌, ℕ, ℤ, Bool, List, Result, Ok}
use Rattle.bq_base.specs.declared.fault.EvalFault.{EvalFault}
use Rattle.bq_predeclared.specs.declared.attribute_type.AttributeType.{AttributeType}
use Rattle.bq_predeclared.specs.declared.attribute_type.AttributeType.TheVariants as t
use Rattle.bq_value_datum.specs.declared.attribute_value.AttributeValue.{AttributeValue}
use Rattle.bq_value_datum.specs.declared.attribute_value.AttributeValue.TheVariants as a
use Rattle.bq_package_values.specs.JsonValue as json
use Rattle.bq_package_values.specs.JsonValue.{Json, value_text as json_text}
use Rattle.bq_value.specs.Datum.{Datum, int, string}
use Rattle.bq_value.specs.Cells.{StoreView}
use Rattle.bq_package_values.specs.declared.written.Written.{Written}
use Rattle.bq_package_values.specs.declared.written.Written.TheVariants as w
use Rattle.bq_package_values.specs.Steps.{and_then}
use Rattle.bq_package_values.specs.Texts.{text_in, texts_in}
use Rattle.bq_package_values.specs.Readings.{int_in, bool_in, IsTruth, IsListOfTexts, Reads, made, text_reads, int_reads, bool_reads, texts_reads}
use Rattle.bq_package_values.specs.Json.{strings_json, label_json, labels_json}

-- ---- how a value is taken

-- What a value is as a value of a type, before its labels are read: what is made of what one reading finds. A value of another type is refused
-- for the fault that the reader names: F40 for the default of an attribute, F73 in the call of a rule.
unfoldable pub written_as : EvalFault → StoreView → AttributeType → Datum → Result Written EvalFault
written_as why store t.String v = and_then (text_in why v) (λ text. Ok (w.Value (a.String text)))
written_as why store t.Int v = and_then (int_in why v) (λ n. Ok (w.Value (a.Int n)))
written_as why store t.Bool v = and_then (bool_in why v) (λ b. Ok (w.Value (a.Bool b)))
written_as why store t.StringList v = and_then (texts_in why store v) (λ texts. Ok (w.Value (a.StringList texts)))
written_as why store t.Label v = and_then (text_in why v) (λ text. Ok (w.Label text))
written_as why store t.LabelList v = and_then (texts_in why store v) (λ texts. Ok (w.LabelList texts))
written_as why store t.Output v = and_then (text_in why v) (λ text. Ok (w.Output text))
written_as why store t.OutputList v = and_then (texts_in why store v) (λ texts. Ok (w.OutputList texts))

-- the same in words of the value
abbrev pub IsWritten : StoreView → Datum → AttributeType → Written → Type 0
IsWritten store v t.String x = (text : List ℕ) × (v ≡ string text) × (x ≡ w.Value (a.String text))
IsWritten store v t.Int x = (n : ℤ) × (v ≡ int n) × (x ≡ w.Value (a.Int n))
IsWritten store v t.Bool x = (b : Bool) × IsTruth v b × (x ≡ w.Value (a.Bool b))
IsWritten store v t.StringList x = (texts : List (List ℕ)) × IsListOfTexts store v texts × (x ≡ w.Value (a.StringList texts))
IsWritten store v t.Label x = (text : List ℕ) × (v ≡ string text) × (x ≡ w.Label text)
IsWritten store v t.LabelList x = (texts : List (List ℕ)) × IsListOfTexts store v texts × (x ≡ w.LabelList texts)
IsWritten store v t.Output x = (text : List ℕ) × (v ≡ string text) × (x ≡ w.Output text)
IsWritten store v t.OutputList x = (texts : List (List ℕ)) × IsListOfTexts store v texts × (x ≡ w.OutputList texts)

-- each type takes just the values that the words have
pub each_type_reads : (why : EvalFault) (store : StoreView) (type : AttributeType) (v : Datum) → Reads why (written_as why store type v) (IsWritten store v type)
unfolding written_as
each_type_reads why store t.String v = made (λ text. w.Value (a.String text)) (text_reads why v)
each_type_reads why store t.Int v = made (λ n. w.Value (a.Int n)) (int_reads why v)
each_type_reads why store t.Bool v = made (λ b. w.Value (a.Bool b)) (bool_reads why v)
each_type_reads why store t.StringList v = made (λ texts. w.Value (a.StringList texts)) (texts_reads why store v)
each_type_reads why store t.Label v = made (λ text. w.Label text) (text_reads why v)
each_type_reads why store t.LabelList v = made (λ texts. w.LabelList texts) (texts_reads why store v)
each_type_reads why store t.Output v = made (λ text. w.Output text) (text_reads why v)
each_type_reads why store t.OutputList v = made (λ texts. w.OutputList texts) (texts_reads why store v)

-- ---- its JSON

-- strings as they are, integers as numbers, labels in full
abbrev pub value_json : AttributeValue → Json
value_json (a.String s) = json.string s
value_json (a.Int n) = json.number n
value_json (a.Bool b) = json.truth b
value_json (a.StringList ss) = strings_json ss
value_json (a.Label l) = label_json l
value_json (a.LabelList ls) = labels_json ls
value_json (a.Output l) = label_json l
value_json (a.OutputList ls) = labels_json ls

-- the text of an attribute value's JSON, without white space
abbrev pub json_value : AttributeValue → List ℕ
json_value x = json_text (value_json x)
