pub mod Conversations
