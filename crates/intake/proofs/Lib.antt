pub mod StateLaws
pub mod EventLaws
pub mod NumberLaws
pub mod CopyLaws
