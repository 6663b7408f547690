pub mod Key
pub mod KeyInner
pub mod KeysText
pub mod Header
