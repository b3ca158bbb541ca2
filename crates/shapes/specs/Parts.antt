-- The texts that spelled texts and properties stand for.
use Rattle.std.specs.Prelude.{ℕ, List}
use Rattle.shapes.specs.declared.spelled.Spelled.{Spelled}
use Rattle.shapes.specs.declared.props.Props.{Props}

-- the UTF-8 bytes of the text [RFC 8259]
abbrev pub spelled_text : Spelled → List ℕ
spelled_text s = s.text

-- the bytes of the compact text
abbrev pub properties_text : Props → List ℕ
properties_text p = p.text
