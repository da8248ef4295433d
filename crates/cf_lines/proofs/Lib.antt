mod LineLaws
pub mod Members
pub mod SchemaLaws
